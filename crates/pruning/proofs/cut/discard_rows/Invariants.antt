-- discarding what is left gives the whole
use Rattle.std.proofs.Common.{◌≡◌, drop}
use Rattle.law.specs.Restarts.{discard}
use Rattle.pruning.proofs.cut.discard_rows.Given as goal

abbrev pub invariant-loop-checkpoint : goal.invariant-loop-checkpoint
invariant-loop-checkpoint g l =
    discard l.cluster.own (g.C.Cut.gone l.cut l.cluster.own) (drop l.checkpoint-index l.checkpoint-items) (g.S.Store.model l.store)
    ≡ discard l.cluster.own (g.C.Cut.gone l.cut l.cluster.own) l.checkpoint-items (g.S.Store.model l.initial.store)
