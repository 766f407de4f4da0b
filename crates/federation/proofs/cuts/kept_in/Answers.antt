-- each of at most eight clusters adds at most sixteen
use Rattle.std.proofs.Common.{◌≡◌, sum_by, vec_len, ◌∙◌, arith, rules, tests}
use Rattle.std.proofs.lemmas.Iterator.{YieldsList-from_slice, YieldsList-from_map}
use Rattle.std.proofs.lemmas.Iterator.Consumers.{sum_by_from_yields_List, fits_by_from_yields_list}
use Rattle.federation.proofs.Cutting.{kept_sum, kept_few}
use Rattle.federation.proofs.cuts.kept_in.Goals as goal

pub sum-kept-requires-clause-fits : goal.sum-kept-requires-clause-fits
sum-kept-requires-clause-fits c =
    let few = kept_few c.args.clusters.now in
    let count = c.requires in
    fits_by_from_yields_list _ _ c.map.result _ (YieldsList-from_map _ (λ x. vec_len x.kept) (YieldsList-from_slice c.args.clusters.now cc) c.map.ensures.closure (λ x r q k. search (rules, tests))) (omega arith)

total : (c : goal.After-sum-kept) → c.sum-kept.result ≡ sum_by (λ x. vec_len x.kept) c.args.clusters.now
total c = sum_by_from_yields_List _ _ c.map.result _ c.sum-kept.ensures.ran (YieldsList-from_map _ (λ x. vec_len x.kept) (YieldsList-from_slice c.args.clusters.now cc) c.map.ensures.closure (λ x r q k. search (rules, tests)))

pub overflow_cast-result : goal.overflow_cast-result
overflow_cast-result c =
    let few = kept_few c.args.clusters.now in
    let count = c.requires in
    let is = total c in
    omega arith

pub returns : goal.returns
returns c = total c ∙ kept_sum c.args.clusters.now
