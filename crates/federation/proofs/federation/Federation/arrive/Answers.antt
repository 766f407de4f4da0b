use Rattle.std.proofs.Common.{get_or, Ok, vec_items, sym, refl, ap, ◌∙◌}
use Rattle.law.specs.declared.Arrived.{Arrived}
use Rattle.book.specs.Logs.{no_logged}
use Rattle.federation.specs.Shown.{shown}
use Rattle.federation.proofs.Arriving.{forced_is, delivered_is}
use Rattle.federation.proofs.federation.Federation.arrive.Goals as goal

pub returns-then-forces : goal.returns-then-forces
returns-then-forces g c =
    let f = c.args.self.now in
    let m = g.S.Store.model f.store in
    let is = forced_is g.R.ForcingRule.says (shown g.S.Store.model f) c.args.id c.args.rank (get_or (vec_items f.book.log) c.in_ok-place.place no_logged) (sym c.in_ok-place.ensures.value) (sym c.forces.ensures ∙ c.if-forces.true) in
    record { answer = c.force.ensures.answer m ∙ is.0; after = c.force.ensures.after m ∙ is.1; store = refl }

pub returns-else-forces : goal.returns-else-forces
returns-else-forces g c =
    let f = c.args.self.now in
    let m = g.S.Store.model f.store in
    let is = delivered_is g.R.ForcingRule.says (shown g.S.Store.model f) c.args.id c.args.rank (get_or (vec_items f.book.log) c.in_ok-place.place no_logged) (sym c.in_ok-place.ensures.value) (sym c.forces.ensures ∙ c.if-forces.false) in
    record { answer = ap (λ (v : Arrived). Ok v) c.deliver.ensures.answer ∙ is.0; after = c.deliver.ensures.after m ∙ is.1; store = refl }
