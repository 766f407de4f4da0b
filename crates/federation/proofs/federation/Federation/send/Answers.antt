use Rattle.std.proofs.Common.{refl}
use Rattle.federation.proofs.federation.Federation.send.Goals as goal

pub returns : goal.returns
returns g c =
    let m = g.S.Store.model c.args.self.now.store in
    record { answer = c.send.ensures.answer m; after = c.send.ensures.after m; store = refl }
