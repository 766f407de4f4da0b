use Rattle.std.proofs.Common.{◌≡◌, Err, sym, ap, ◌∙◌, rules}
use Rattle.store.specs.Table.{lookup, read_refused, read_count}
use Rattle.refusal.specs.Answers.{replied}
use Rattle.refusal.specs.declared.Refusal.TheVariants as refuses
use Rattle.federation.specs.Told.{told_list}
use Rattle.federation.proofs.Wording.{sized_at, read_refused_lem}
use Rattle.federation.proofs.federation.Federation.words.Goals as goal

pub returns-in_err-count : goal.returns-in_err-count
returns-in_err-count g c =
    let m = g.S.Store.model c.args.self.now.store in
    let z : c.from_residual.result ≡ Err (refuses.Store c.in_err-count.field-0.0) = search rules in
    let v : c.read.result ≡ replied (read_refused (lookup m.table c.args.cluster c.args.number) 32) (read_count m c.args.cluster c.args.number) = search rules in
    ap told_list z
    ∙ read_refused_lem (lookup m.table c.args.cluster c.args.number) c.in_err-count.field-0.0 (read_count m c.args.cluster c.args.number)
    (λ ws e. sized_at m.table c.args.cluster c.args.number ws (g.met.S.Store.formed c.args.self.now.store).sized e) (sym c.in_err-count.was ∙ v)
