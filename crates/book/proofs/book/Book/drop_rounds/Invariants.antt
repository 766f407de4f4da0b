-- the clusters passed are without their rounds, and all stand where they stood
use Rattle.std.proofs.Common.{◌≡◌, true, ◌++◌, map, take, drop, vec_items}
use Rattle.book.specs.Placed.{placed}
use Rattle.book.specs.View.{group}
use Rattle.book.proofs.Dropping.{quiet}
use Rattle.book.proofs.book.Book.drop_rounds.Given as goal

abbrev pub invariant-loop-cluster : goal.invariant-loop-cluster
invariant-loop-cluster l =
    (map group l.cluster-items ≡ map quiet (take l.cluster-index (map group (vec_items l.fn.self.clusters))) ++ drop l.cluster-index (map group (vec_items l.fn.self.clusters)))
    × (placed 0 l.cluster-items ≡ true)
