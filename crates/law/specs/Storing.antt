-- Read, lose and rebuild: the words of a kept checkpoint, and the calls that a store with sides adds.
--
--   read_refusal  why read refuses, if it does; read_tells the words that it gives; the book stays as it is
--   side_tells    what lose and rebuild answer: what the store says of the side; its table, and so the book, stays as it is
use Rattle.std.specs.Prelude.{ℕ, cond, List, [], is_some, Some, None, Option, Result, nat_lt}
use Rattle.refusal.specs.declared.Refusal.{Refusal}
use Rattle.refusal.specs.declared.Refusal.TheVariants as refuses
use Rattle.refusal.specs.declared.StoreRefusal.{StoreRefusal}
use Rattle.refusal.specs.declared.StoreRefusal.TheVariants as store_refuses
use Rattle.store.specs.Table.{lookup}
use Rattle.refusal.specs.Answers.{replied}
use Rattle.law.specs.Book.{Book, at, count, checkpoint_at}
use Rattle.law.specs.Rounds.{from_store}

abbrev pub held_by : Option (List ℕ) → Option Refusal
held_by (Some ws) = None
held_by None = Some (refuses.Store store_refuses.NotHeld)

abbrev pub read_refusal : Book → ℕ → ℕ → Option Refusal
read_refusal b i n =
    cond (nat_lt i (count b))
    (cond (is_some (checkpoint_at (at b i).kept n)) (held_by (lookup b.store.table i n)) (Some refuses.NotKept))
    (Some refuses.NoCluster)

abbrev pub words_held : Option (List ℕ) → List ℕ
words_held (Some ws) = ws
words_held None = []

abbrev pub read_tells : Book → ℕ → ℕ → Result (List ℕ) Refusal
read_tells b i n = replied (read_refusal b i n) (words_held (lookup b.store.table i n))

abbrev pub side_tells : Option StoreRefusal → Result Unit Refusal
side_tells why = replied (from_store why) tt
