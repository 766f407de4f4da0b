use Rattle.std.proofs.Common.{◌≡◌, ℕ, ◌-◌, List, take, replicate, sym, ap, ◌∙◌, ap₂, add-one, arith}
use Rattle.std.proofs.lemmas.List.{take-replicate}
use Rattle.store.specs.Table.{Model, keep_model}
use Rattle.law.specs.Opening.{kept_first}
use Rattle.federation.proofs.federation.opens.keep_first.Goals as goal

pub loop-cluster-preserved : goal.loop-cluster-preserved
loop-cluster-preserved g c =
    let nodes = c.args.nodes in
    let m = g.S.Store.model c.args.store.now in
    let k = c.loop-cluster.cluster in
    let nodes_is : c.from.result - 0 ≡ nodes = let e = c.from.ensures in omega arith in
    let few = c.requires in
    let zeros : take (c.from.result - 0) (replicate 32 0) ≡ replicate nodes 0 = ap (λ (z : ℕ). take z (replicate 32 0)) nodes_is ∙ take-replicate nodes 32 0 few in
    c.keep.ensures.after
    ∙ ap₂ (λ (x : Model) (ws : List ℕ). keep_model x k 1 ws) c.loop-cluster.invariant zeros
    ∙ ap (λ (z : ℕ). kept_first z nodes m) (sym (add-one k))
