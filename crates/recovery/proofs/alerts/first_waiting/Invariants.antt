-- what is left gives the whole
use Rattle.std.proofs.Common.{◌≡◌, drop}
use Rattle.law.specs.Restarts.{first_waiting}
use Rattle.recovery.proofs.alerts.first_waiting.Given as goal

abbrev pub invariant-loop-from : goal.invariant-loop-from
invariant-loop-from l = first_waiting l.from (drop l.from l.waiting) ≡ first_waiting 0 l.waiting
