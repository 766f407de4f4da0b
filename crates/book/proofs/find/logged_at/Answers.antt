use Rattle.book.proofs.Finding.{logged_told}
use Rattle.book.proofs.find.logged_at.Goals as goal

pub returns : goal.returns
returns c = logged_told c.args.log.now c.args.id c.find.result c.ok.result c.find.ensures.value c.ok.ensures.value c.requires (c.find.ensures.meaning c.requires)
