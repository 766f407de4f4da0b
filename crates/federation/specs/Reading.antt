-- Why a checkpoint cannot be read, before the store is asked.
--
--   not_kept  no such cluster, or it does not keep a checkpoint with this number
use Rattle.std.specs.Prelude.{ℕ, cond, is_some, Some, None, Option, nat_lt}
use Rattle.refusal.specs.declared.Refusal.{Refusal}
use Rattle.refusal.specs.declared.Refusal.TheVariants as refuses
use Rattle.law.specs.Book.{Book, at, count, checkpoint_at}

abbrev pub not_kept : Book → ℕ → ℕ → Option Refusal
not_kept b i n =
    cond (nat_lt i (count b)) (cond (is_some (checkpoint_at (at b i).kept n)) None (Some refuses.NotKept)) (Some refuses.NoCluster)
