-- each of at most thirty-two answers adds one or none
use Rattle.std.proofs.Common.{◌≡◌, cond, is_some, sum_by, ◌∙◌, arith, rules, tests}
use Rattle.std.proofs.lemmas.Iterator.{YieldsList-from_slice, YieldsList-from_map}
use Rattle.std.proofs.lemmas.Iterator.Consumers.{sum_by_from_yields_List, fits_by_from_yields_list}
use Rattle.federation.proofs.Answering.{lacking_sum, lacking_few}
use Rattle.federation.proofs.answers.missing.Goals as goal

pub sum-left-requires-clause-fits : goal.sum-left-requires-clause-fits
sum-left-requires-clause-fits c =
    let few = lacking_few c.args.answers.now in
    let same = lacking_sum c.args.answers.now in
    let count = c.requires in
    fits_by_from_yields_list _ _ c.map.result _ (YieldsList-from_map _ (λ o. cond (is_some o) 0 1) (YieldsList-from_slice c.args.answers.now cc) c.map.ensures.closure (λ x r q k. search (rules, tests))) (omega arith)

total : (c : goal.After-sum-left) → c.sum-left.result ≡ sum_by (λ o. cond (is_some o) 0 1) c.args.answers.now
total c = sum_by_from_yields_List _ _ c.map.result _ c.sum-left.ensures.ran (YieldsList-from_map _ (λ o. cond (is_some o) 0 1) (YieldsList-from_slice c.args.answers.now cc) c.map.ensures.closure (λ x r q k. search (rules, tests)))

pub overflow_cast-result : goal.overflow_cast-result
overflow_cast-result c =
    let few = lacking_few c.args.answers.now in
    let same = lacking_sum c.args.answers.now in
    let count = c.requires in
    let is = total c in
    omega arith

pub returns : goal.returns
returns c = total c ∙ lacking_sum c.args.answers.now
