-- one message more: its id behind the others if it goes again
use Rattle.std.proofs.Common.{length, sym, ap, ◌∙◌, arith, lit<}
use Rattle.law.specs.Restarts.{to_go_again}
use Rattle.book.specs.Rules.{id_of}
use Rattle.pruning.proofs.Picking.{picked_few, picked_more, picked_same}
use Rattle.pruning.proofs.log.again.Goals as goal
use Rattle.pruning.proofs.log.again.Goals.{then-goes_again, else-goes_again}

pub push-requires : goal.push-requires
push-requires c =
    let same = ap length c.loop-logged.invariant in
    let few = picked_few id_of (to_go_again c.args.places.now) c.args.log.now c.loop-logged.logged-index in
    (lit< tt, omega arith)

pub loop-logged-preserved : goal.loop-logged-preserved
loop-logged-preserved c =
    let goes = to_go_again c.args.places.now in
    elim c.if-goes_again.branch [
      | then-goes_again w ↦
          ap (λ v. v.items) w.ids-is ∙ w.push.ensures.items
          ∙ picked_more id_of goes c.args.log.now c.loop-logged.logged-index (c.loop-logged.ids.items) _ c.loop-logged.invariant c.loop-logged-test.true (sym c.goes_again.ensures ∙ w.if-goes_again.true)
      | else-goes_again w ↦
          ap (λ v. v.items) w.ids-is
          ∙ picked_same id_of goes c.args.log.now c.loop-logged.logged-index (c.loop-logged.ids.items) _ c.loop-logged.invariant c.loop-logged-test.true (sym c.goes_again.ensures ∙ w.if-goes_again.false)
    ]
