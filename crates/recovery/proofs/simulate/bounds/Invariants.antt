-- the lowest places over the faults tried so far, and the restart as it was
use Rattle.std.proofs.Common.{◌≡◌, map, length}
use Rattle.law.specs.Trials.{lowest}
use Rattle.book.specs.View.{group}
use Rattle.recovery.proofs.simulate.bounds.Given as goal

abbrev pub invariant-loop-failed : goal.invariant-loop-failed
invariant-loop-failed l = (l.low ≡ lowest l.failed (map group l.clusters)) × (l.restart ≡ l.initial.restart) × (length l.low ≡ 8)
