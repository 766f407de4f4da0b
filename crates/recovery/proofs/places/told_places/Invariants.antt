-- the places told so far
use Rattle.std.proofs.Common.{◌≡◌, take}
use Rattle.law.specs.Restarts.{tells_places}
use Rattle.recovery.proofs.places.told_places.Given as goal

abbrev pub invariant-loop-place : goal.invariant-loop-place
invariant-loop-place l = l.list.items ≡ tells_places l.place-index (take l.count l.places)
