-- each alert that is carried leads to the same end, and nearer to it
use Rattle.std.proofs.Common.{◌≤◌, List, map, length, ◌∙◌, arith}
use Rattle.std.proofs.lemmas.List.{length-map}
use Rattle.book.specs.declared.Cluster.{Cluster}
use Rattle.book.specs.View.{group}
use Rattle.recovery.proofs.Drains.{step_same, step_less}
use Rattle.recovery.proofs.alerts.drain.Goals as goal

few-shown : (cs : List Cluster) → length cs ≤ 8 → length (map group cs) ≤ 8
few-shown cs few = let many = length-map cs group in omega arith

pub loop-from-smaller : goal.loop-from-smaller
loop-from-smaller c =
    step_less (map group c.args.clusters.now) (few-shown c.args.clusters.now c.requires) c.loop-from.restart c.carry.new.restart c.in-Some.from c.in-Some.to
    c.in-Some.ensures.value c.carry.ensures.after

pub loop-from-preserved : goal.loop-from-preserved
loop-from-preserved c =
    step_same (map group c.args.clusters.now) (few-shown c.args.clusters.now c.requires) c.loop-from.restart c.carry.new.restart c.in-Some.from c.in-Some.to
    c.in-Some.ensures.value c.carry.ensures.after
    ∙ c.loop-from.invariant
