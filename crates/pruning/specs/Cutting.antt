-- The row of a cluster that goes back to a place.
use Rattle.std.specs.Prelude.{ℕ, cond, List, ◌==◌}
use Rattle.law.specs.declared.Checkpoint.{Checkpoint}
use Rattle.law.specs.Book.{checkpoint_at, row_or, stays}

abbrev pub row_back : ℕ → List ℕ → List Checkpoint → List ℕ
row_back place row kept = cond (place == stays) row (row_or row (checkpoint_at kept place))
