-- a cluster with no alert waiting is passed over
use Rattle.std.proofs.Common.{sym, ◌∙◌, arith}
use Rattle.std.proofs.lemmas.List.{at_drop_all}
use Rattle.law.specs.Restarts.{first_waiting}
use Rattle.recovery.proofs.Firsts.{waits_here, waits_more}
use Rattle.recovery.proofs.alerts.first_waiting.Goals as goal

pub returns-in-Some : goal.returns-in-Some
returns-in-Some c =
    record {
      value = sym (waits_here c.args.waiting.now c.loop-from.from c.in-Some.to _ (omega arith) c.in-Some.ensures.value) ∙ c.loop-from.invariant;
      within = (c.loop-from-test.true, c.in-Some.ensures.within);
    }

pub loop-from-preserved : goal.loop-from-preserved
loop-from-preserved c = waits_more c.args.waiting.now c.loop-from.from _ (omega arith) c.in_default.ensures.value ∙ c.loop-from.invariant

pub returns : goal.returns
returns c =
    record {
      value = sym (at_drop_all (first_waiting c.loop-from.from) c.args.waiting.now c.loop-from.from (omega arith)) ∙ c.loop-from.invariant;
      within = tt;
    }
