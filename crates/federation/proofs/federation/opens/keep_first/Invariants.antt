use Rattle.std.proofs.Common.{◌≡◌}
use Rattle.law.specs.Opening.{kept_first}
use Rattle.federation.proofs.federation.opens.keep_first.Given as goal

abbrev pub invariant-loop-cluster : goal.invariant-loop-cluster
invariant-loop-cluster g l = g.S.Store.model l.store ≡ kept_first l.cluster l.nodes (g.S.Store.model l.initial.store)
