-- What an alert finds in the one cluster that it reaches.
--
--   entry_of   the cluster's entry for another, at its place
--   called_in  the checkpoint of the cluster to which the alert calls it back, if it does
use Rattle.std.specs.Prelude.{ℕ, cond, [], None, Option, ◌==◌, nat_le}
use Rattle.law.specs.Book.{Cluster as Group, entry, row_or, checkpoint_at, stays}
use Rattle.law.specs.Restarts.{latest}

abbrev pub entry_of : Group → ℕ → ℕ → ℕ
entry_of g place i = cond (place == stays) (entry g.row i) (entry (row_or [] (checkpoint_at g.kept place)) i)

-- back is the place to which cluster i went
abbrev pub called_in : Group → ℕ → ℕ → ℕ → Option ℕ
called_in g i back place = cond (nat_le back (entry_of g place i)) (latest i back place g.kept None) None
