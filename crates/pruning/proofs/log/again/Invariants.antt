-- the ids of the messages passed that go again
use Rattle.std.proofs.Common.{◌≡◌, take}
use Rattle.law.specs.Restarts.{again}
use Rattle.pruning.proofs.log.again.Given as goal

abbrev pub invariant-loop-logged : goal.invariant-loop-logged
invariant-loop-logged l = l.ids.items ≡ again l.places (take l.logged-index l.log)
