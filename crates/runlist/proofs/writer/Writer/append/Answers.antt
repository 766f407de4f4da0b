use Rattle.std.proofs.Common.{sym, ◌∙◌}
use Rattle.runlist.proofs.Writing.{kept}
use Rattle.runlist.proofs.writer.Writer.append.Goals as goal

pub returns-in_err-check-clause-len : goal.returns-in_err-check-clause-len
returns-in_err-check-clause-len c = kept _ _ _ _ (sym c.in_err-check.was ∙ c.check.ensures)
