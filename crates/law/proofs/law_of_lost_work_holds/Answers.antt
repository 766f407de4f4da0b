use Rattle.law.proofs.Whole.{law_of_lost_work}
use Rattle.law.proofs.law_of_lost_work_holds.Goals as goal

pub returns : goal.returns
returns c = law_of_lost_work
