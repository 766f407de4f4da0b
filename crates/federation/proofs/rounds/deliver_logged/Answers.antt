use Rattle.std.proofs.Common.{Option, sym, ap, ◌∙◌}
use Rattle.law.specs.declared.Logged.{Logged}
use Rattle.law.specs.Rounds.{deliver_logged}
use Rattle.book.specs.Logs.{no_logged}
use Rattle.book.specs.View.{view}
use Rattle.federation.proofs.rounds.deliver_logged.Goals as goal

pub returns-in-Some : goal.returns-in-Some
returns-in-Some c =
    let b = c.args.book.now in
    λ m. c.deliver.ensures m ∙ ap (λ (o : Option Logged). deliver_logged (view b m) o) (sym (c.in-Some.ensures.1 no_logged))
