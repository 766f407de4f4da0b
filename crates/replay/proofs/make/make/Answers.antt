-- each call that needs no ticket leaves the ticket that is held
use Rattle.std.proofs.Common.{rules}
use Rattle.replay.proofs.make.make.Goals as goal
use Rattle.replay.proofs.make.make.Goals.{in-Request, in-Answer, in-Send, in-Arrive, in-Trial, in-Collect, in-Read, in-Lose, in-Rebuild}

pub returns : goal.returns
returns g c =
    elim c.match-call.branch [
      | in-Request w ↦ rw (w.federation-is, w.exchange-is, w.in-Request.is) (search rules)
      | in-Answer w ↦ rw (w.federation-is, w.exchange-is, w.in-Answer.is) (search rules)
      | in-Send w ↦ rw (w.federation-is, w.exchange-is, w.in-Send.is) (search rules)
      | in-Arrive w ↦ rw (w.federation-is, w.exchange-is, w.in-Arrive.is) (search rules)
      | in-Trial w ↦ rw (w.federation-is, w.exchange-is, w.in-Trial.is) (search rules)
      | in-Collect w ↦ rw (w.federation-is, w.exchange-is, w.in-Collect.is) (search rules)
      | in-Read w ↦ rw (w.federation-is, w.exchange-is, w.in-Read.is) (search rules)
      | in-Lose w ↦ rw (w.federation-is, w.exchange-is, w.in-Lose.is) (search rules)
      | in-Rebuild w ↦ rw (w.federation-is, w.exchange-is, w.in-Rebuild.is) (search rules)
    ]
