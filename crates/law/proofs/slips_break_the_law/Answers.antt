use Rattle.law.proofs.Slips.{slips}
use Rattle.law.proofs.slips_break_the_law.Goals as goal

pub returns : goal.returns
returns c = slips
