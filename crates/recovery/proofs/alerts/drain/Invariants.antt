-- what is left to carry leads to the same end
use Rattle.std.proofs.Common.{◌≡◌, map}
use Rattle.law.specs.Restarts.{drained, enough}
use Rattle.book.specs.View.{group}
use Rattle.recovery.proofs.alerts.drain.Given as goal

abbrev pub invariant-loop-from : goal.invariant-loop-from
invariant-loop-from l = drained (map group l.clusters) l.restart ≡ drained (map group l.clusters) l.initial.restart

abbrev pub decreases-loop-from : goal.decreases-loop-from
decreases-loop-from l = enough l.restart
