-- the messages passed are without their late receipts
use Rattle.std.proofs.Common.{◌≡◌, ◌++◌, map, take, drop}
use Rattle.law.specs.Restarts.{unreceived}
use Rattle.pruning.proofs.log.log_back.Given as goal

abbrev pub invariant-loop-logged : goal.invariant-loop-logged
invariant-loop-logged l =
    l.logged-items ≡ map (unreceived l.places) (take l.logged-index l.initial.logged-items) ++ drop l.logged-index l.initial.logged-items
