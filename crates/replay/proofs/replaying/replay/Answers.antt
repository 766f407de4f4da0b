use Rattle.std.proofs.Common.{Ok, vec_items, subst, rules}
use Rattle.law.specs.Book.{Book}
use Rattle.federation.specs.Opened.{Opened}
use Rattle.federation.specs.Shown.{shown}
use Rattle.replay.specs.Replays.{Run}
use Rattle.replay.proofs.Running.{replaying}
use Rattle.replay.proofs.replaying.replay.Goals as goal

pub returns : goal.returns
returns g c =
    let says = g.R.ForcingRule.says in
    let m = g.S.Store.model c.args.store in
    let opened : Opened g.S.Store.model c.args.name c.args.clusters c.args.nodes c.args.rule c.args.store (Ok c.in_ok-federation.federation) = search rules in
    let es = vec_items c.make_all-held.new.exchanges in
    let now = shown g.S.Store.model c.make_all-held.new.federation in
    replaying says c.args.name c.args.clusters c.args.nodes m c.args.calls.now es now g.met.R.ForcingRule.news opened.0
    (subst (λ (b : Book). Run says b c.args.calls.now es now) opened.1 c.make_all-held.ensures)
