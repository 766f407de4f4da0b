use Rattle.std.proofs.Common.{sym, subst}
use Rattle.federation.specs.Shown.{shown}
use Rattle.replay.specs.declared.exchange.Call.TheVariants.{Finish}
use Rattle.replay.specs.declared.exchange.Exchange.{Exchange}
use Rattle.replay.specs.Exchanges.{Stepped}
use Rattle.replay.proofs.make.finish.Goals as goal

pub returns-in_default : goal.returns-in_default
returns-in_default g c =
    subst (λ (e : Exchange). Stepped g.R.ForcingRule.says (shown g.S.Store.model c.args.federation.now) (shown g.S.Store.model c.finish_on-made.new.federation) Finish e) (sym c.keeping.ensures) c.finish_on-made.ensures
