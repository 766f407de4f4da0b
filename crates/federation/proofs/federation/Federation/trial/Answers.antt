use Rattle.std.proofs.Common.{refl}
use Rattle.federation.proofs.federation.Federation.trial.Goals as goal

pub returns : goal.returns
returns g c =
    let m = g.S.Store.model c.args.self.now.store in
    record { answer = c.trial.ensures.answer m; after = c.trial.ensures.after m; store = refl }
