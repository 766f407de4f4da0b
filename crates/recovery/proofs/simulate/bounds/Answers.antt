-- each turn lowers the places by one more trial, and every trial leaves the restart as it was
use Rattle.std.proofs.Common.{◌≡◌, ℕ, suc, ◌+◌, map, length, ap, ◌∙◌, ap₂, arith, rules}
use Rattle.recovery.proofs.Lower.{lower_is}
use Rattle.law.specs.Trials.{lower, lowest}
use Rattle.book.specs.View.{group}
use Rattle.recovery.proofs.simulate.bounds.Goals as goal

pub loop-failed-preserved : goal.loop-failed-preserved
loop-failed-preserved c =
    let one : suc c.loop-failed.failed ≡ c.loop-failed.failed + 1 = omega arith in
    let long : length c.lower_of-next.result ≡ 8 = search rules in
    let long-low = c.loop-failed.invariant.2 in
    let long-tried : length c.trial.result ≡ 8 = search rules in (
      lower_is c.lower_of-next.result c.loop-failed.low c.trial.result (omega arith) (omega arith) c.lower_of-next.ensures
          ∙ ap₂ lower c.loop-failed.invariant.0 c.trial.ensures.value
          ∙ ap (λ (k : ℕ). lowest k (map group c.args.clusters.now)) one,
      c.trial.ensures.same ∙ c.loop-failed.invariant.1,
      long,
    )
