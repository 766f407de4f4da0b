use Rattle.std.proofs.Common.{List, map, is_ok, vec_items, sym, ap, ◌∙◌, subst}
use mathlib.Core.List.{map-append}
use Rattle.std.proofs.ResultArms.{chosen}
use Rattle.std.proofs.lemmas.Result.{err_from_is_err_and}
use Rattle.runlist.specs.Format.{Item, item}
use Rattle.runlist.specs.Lists.{read_list}
use Rattle.runlist.specs.Reads.{to_come, place}
use Rattle.runlist.proofs.Gathering.{Gathered, gathered_more, gathered_refused, gathered_all}
use Rattle.runlist.proofs.Reading.{step_of}
use Rattle.runlist.proofs.lists.read_list.Goals as goal

pub returns-in_err-read : goal.returns-in_err-read
returns-in_err-read c =
    let p = err_from_is_err_and c.from_residual.result c.from_residual.ensures.1 in
    let s = step_of c.in_err-read.was c.in-Some.ensures.steps in
    rw (p.1, p.2) (gathered_refused _ _ _ _ c.in_err-read.field-0.0 c.loop-read.invariant.2 s)

pub loop-read-preserved : goal.loop-read-preserved
loop-read-preserved c =
    let pushed = chosen _ _ _ _ c.push.ensures.items (ap is_ok c.in_ok-push.was) in
    let s = step_of c.in_ok-read.was c.in-Some.ensures.steps in
    let more = gathered_more _ _ _ (map item (vec_items c.loop-read.commands)) (place c.in_ok-read.field-0) c.loop-read.invariant.2 s in
    (tt, tt, subst (λ (is : List Item). Gathered (read_list c.args.list.now) (to_come c.next.new.self) is) (sym (ap (map item) pushed ∙ map-append item (vec_items c.loop-read.commands) _)) more)

pub returns : goal.returns
returns c = gathered_all c.args.list.now _ _ _ c.loop-read.invariant.2 c.in-None.ensures.steps
