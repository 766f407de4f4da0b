-- What every store means: a table from cluster and number to words, with a fixed capacity.
--
--   TableRow      one row: a cluster, a number, and the words kept under them
--   Model         the rows in order of cluster, then number; the capacity; the side that a full refusal names
--   lookup        the words held under a cluster and a number
--   limited       rows as a store of another capacity would hold them
--   keep_refusal  why keep refuses, if it does; keep_model what the store means after it
--   drop_refusal  why drop refuses, if it does; drop_model what the store means after it
--   read_refusal  why read refuses, if it does; read_count, read_buffer what it tells and leaves in the buffer
--   position_at   the cluster and number of the row at a position
--   key_of        the cluster and number of a row
use Rattle.std.specs.Prelude.{ℕ, zero, suc, Bool, true, false, cond, List, [], ◌∷◌, ◌++◌, length, drop, is_some, Some, None, Option, Result, ◌==◌, nat_le, nat_lt}
use Rattle.std.specs.Option.{unwrap_or, ok_or}
use Rattle.refusal.specs.Answers.{unless_refused}
use Rattle.store.specs.declared.RowKey.{RowKey}
use Rattle.refusal.specs.declared.StoreRefusal.{StoreRefusal}
use Rattle.refusal.specs.declared.StoreRefusal.TheVariants as refuses

pub record TableRow : Type 0 where
  pub cluster : ℕ
  pub number : ℕ
  pub words : List ℕ

pub record Model : Type 0 where
  pub table : List TableRow
  pub capacity : ℕ
  -- 0 for a store without sides, else the first side whose capacity is the smallest, counted from 1
  pub full : ℕ

abbrev pub both : Bool → Bool → Bool
both true b = b
both false b = false

abbrev pub either : Bool → Bool → Bool
either true b = true
either false b = b

-- the row stands under this cluster and number
abbrev pub under : ℕ → ℕ → TableRow → Bool
under c n row = both (row.cluster == c) (row.number == n)

-- this cluster and number come before the row
abbrev pub before : ℕ → ℕ → TableRow → Bool
before c n row = either (nat_lt c row.cluster) (both (c == row.cluster) (nat_lt n row.number))

abbrev pub lookup : List TableRow → ℕ → ℕ → Option (List ℕ)
lookup [] c n = None
lookup (row ∷ rows) c n = cond (under c n row) (Some row.words) (lookup rows c n)

-- a row more, in its place
abbrev pub insert : TableRow → List TableRow → List TableRow
insert new [] = new ∷ []
insert new (row ∷ rows) = cond (before new.cluster new.number row) (new ∷ row ∷ rows) (row ∷ insert new rows)

-- the rows without the one under this cluster and number
abbrev pub remove : List TableRow → ℕ → ℕ → List TableRow
remove [] c n = []
remove (row ∷ rows) c n = cond (under c n row) rows (row ∷ remove rows c n)

-- rows under this capacity, whose full refusal names this side
abbrev pub limited : List TableRow → ℕ → ℕ → Model
limited rows capacity full = record { table = rows; capacity = capacity; full = full }

abbrev pub with_table : Model → List TableRow → Model
with_table m rows = record { table = rows; capacity = m.capacity; full = m.full }

-- 1 to 32 words
abbrev pub words_fit : ℕ → Bool
words_fit count = both (nat_le 1 count) (nat_le count 32)

abbrev pub keep_refusal : Model → ℕ → ℕ → List ℕ → Option StoreRefusal
keep_refusal m c n ws =
    cond (words_fit (length ws))
    (cond (is_some (lookup m.table c n)) (Some refuses.Held)
    (cond (nat_le m.capacity (length m.table)) (Some (refuses.Full m.full)) None))
    (Some refuses.WordCount)

abbrev pub keep_model : Model → ℕ → ℕ → List ℕ → Model
keep_model m c n ws =
    unless_refused (keep_refusal m c n ws) m
    (with_table m (insert (record { cluster = c; number = n; words = ws }) m.table))

abbrev pub drop_refusal : Model → ℕ → ℕ → Option StoreRefusal
drop_refusal m c n = cond (is_some (lookup m.table c n)) None (Some refuses.NotHeld)

abbrev pub drop_model : Model → ℕ → ℕ → Model
drop_model m c n = with_table m (remove m.table c n)

-- why these words, if any are held, are not read into a buffer with so much room
abbrev pub read_refused : Option (List ℕ) → ℕ → Option StoreRefusal
read_refused None room = Some refuses.NotHeld
read_refused (Some ws) room = cond (nat_le (length ws) room) None (Some refuses.WordCount)

abbrev pub read_refusal : Model → ℕ → ℕ → ℕ → Option StoreRefusal
read_refusal m c n room = read_refused (lookup m.table c n) room

abbrev pub read_count : Model → ℕ → ℕ → ℕ
read_count m c n = length (unwrap_or (lookup m.table c n) [])

-- words over the front of a buffer
abbrev pub over : List ℕ → List ℕ → List ℕ
over ws buffer = ws ++ drop (length ws) buffer

abbrev pub read_buffer : Model → ℕ → ℕ → List ℕ → List ℕ
read_buffer m c n buffer =
    unless_refused (read_refusal m c n (length buffer)) buffer (over (unwrap_or (lookup m.table c n) []) buffer)

abbrev pub key_of : TableRow → RowKey
key_of row = record { cluster = row.cluster; number = row.number }

abbrev pub row_at : List TableRow → ℕ → Option RowKey
row_at [] at = None
row_at (row ∷ rows) zero = Some (key_of row)
row_at (row ∷ rows) (suc at) = row_at rows at

abbrev pub position_at : Model → ℕ → Result RowKey StoreRefusal
position_at m at = ok_or (row_at m.table at) refuses.WordCount
