use Rattle.std.proofs.Common.{[], Some, None, ◌∙◌}
use Rattle.book.proofs.Finding.{checkpoint_told}
use Rattle.book.proofs.find.checkpoint_at.Goals as goal

pub returns-in_err-at : goal.returns-in_err-at
returns-in_err-at c =
    c.from_residual.ensures ∙ checkpoint_told c.args.kept.now c.args.number (record { number = 0; row = [] }) c.find.result None c.find.ensures.value c.in_err-at.ensures.value c.requires

pub returns : goal.returns
returns c = checkpoint_told c.args.kept.now c.args.number (record { number = 0; row = [] }) c.find.result (Some c.in_ok-at.at) c.find.ensures.value c.in_ok-at.ensures.value c.requires
