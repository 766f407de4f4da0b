-- Every cluster of a list stands at the position that it says is its own.
use Rattle.std.specs.Prelude.{ℕ, suc, Bool, true, List, [], ◌∷◌, ◌==◌}
use Rattle.store.specs.Table.{both}
use Rattle.book.specs.declared.cluster.Cluster.{Cluster}

abbrev pub placed : ℕ → List Cluster → Bool
placed i [] = true
placed i (c ∷ cs) = both (c.own == i) (placed (suc i) cs)
