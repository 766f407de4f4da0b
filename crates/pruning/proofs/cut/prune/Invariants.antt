-- the clusters passed are pruned, and all stand where they stood
use Rattle.std.proofs.Common.{◌≡◌, true}
use Rattle.law.specs.Restarts.{prune}
use Rattle.book.specs.Placed.{placed}
use Rattle.book.specs.View.{view}
use Rattle.pruning.proofs.Cutting.{left_with}
use Rattle.pruning.proofs.cut.prune.Given as goal

abbrev pub invariant-loop-cluster : goal.invariant-loop-cluster
invariant-loop-cluster g l =
    let change = g.C.Cut.change l.cut in
    let gone = g.C.Cut.gone l.cut in
    let m = g.S.Store.model l.fn.store in
    (left_with change gone l.fn.book m l.cluster-items (g.S.Store.model l.store) ≡ prune change gone l.cluster-index (view l.fn.book m))
    × (placed 0 l.cluster-items ≡ true)
