use Rattle.std.proofs.Common.{ℕ, Some, None, sym, refl, ◌∙◌, ap₂}
use Rattle.std.proofs.lemmas.Bool.{cond-true}
use Rattle.refusal.specs.declared.Refusal.TheVariants as refuses
use Rattle.store.specs.Table.{Model}
use Rattle.law.specs.Opening.{opens}
use Rattle.book.specs.View.{new_book}
use Rattle.federation.proofs.federation.Federation.open.Goals as goal

pub returns : goal.returns
returns g c =
    let m = g.S.Store.model c.args.store in
    let n = c.args.clusters in
    let nodes = c.args.nodes in (
      cond-true (opens n nodes m) None (Some refuses.BadOpen) (sym c.if-not-may_open.ensures),
      c.in-Ok.ensures (g.S.Store.model c.keep_first.new.store)
          ∙ ap₂ (λ (k : ℕ) (x : Model). new_book c.args.name k nodes x) c.from.ensures c.keep_first.ensures,
      refl,
    )
