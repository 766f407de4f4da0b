-- all messages together are the whole log
use Rattle.std.proofs.Common.{set, ap, ◌∙◌, arith}
use Rattle.std.proofs.lemmas.List.{get_or_default}
use Rattle.std.proofs.lemmas.List.Edits.{map_over_more}
use Rattle.law.specs.declared.Logged.{Logged}
use Rattle.law.specs.Restarts.{unreceived}
use Rattle.pruning.proofs.log.log_back.Goals as goal

pub loop-logged-preserved : goal.loop-logged-preserved
loop-logged-preserved c =
    let xs = c.deref_mut-logged-items.result.now in
    let ys = c.loop-logged.logged-items in
    let i = c.loop-logged.logged-index in
    let long = c.loop-logged.auto.logged-items in
    let more = c.loop-logged-test.true in
    ap (λ (z : Logged). set ys i z) c.unreceive.ensures
    ∙ map_over_more (unreceived c.args.places.now) xs ys i _ c.loop-logged-test.true c.loop-logged.invariant (get_or_default ys i _ _ (omega arith))
