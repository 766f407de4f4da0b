use Rattle.std.proofs.Common.{sym, subst}
use Rattle.federation.specs.Shown.{shown}
use Rattle.replay.specs.declared.exchange.Call.TheVariants.{Resume}
use Rattle.replay.specs.declared.exchange.Exchange.{Exchange}
use Rattle.replay.specs.Exchanges.{Stepped}
use Rattle.replay.proofs.make.resume.Goals as goal

pub returns-in_default : goal.returns-in_default
returns-in_default g c =
    subst (λ (e : Exchange). Stepped g.R.ForcingRule.says (shown g.S.Store.model c.args.federation.now) (shown g.S.Store.model c.resume_on-made.new.federation) Resume e) (sym c.keeping.ensures) c.resume_on-made.ensures
