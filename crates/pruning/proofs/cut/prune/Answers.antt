-- one cluster after another
use Rattle.std.proofs.Common.{◌≡◌, ℕ, get_or, vec_items, sym, ap, ◌∙◌, add-one, arith}
use Rattle.law.specs.Restarts.{discard, prune}
use Rattle.book.specs.View.{view, group}
use Rattle.book.proofs.Placing.{own_at, placed_set}
use Rattle.pruning.proofs.Cutting.{pruned_more}
use Rattle.pruning.proofs.cut.prune.Goals as goal

pub loop-cluster-preserved : goal.loop-cluster-preserved
loop-cluster-preserved g c =
    let change = g.C.Cut.change c.args.cut.now in
    let gone = g.C.Cut.gone c.args.cut.now in
    let m = g.S.Store.model c.args.store.now in
    let cs = c.loop-cluster.cluster-items in
    let i = c.loop-cluster.cluster-index in
    let was = get_or cs i c.cluster-item.result in
    let left = g.S.Store.model c.loop-cluster.store in
    let cut = c.prune_cluster.ensures in
    let read = ap (get_or cs i) c.cluster-item.is in
    let own : was.own ≡ i = own_at 0 cs i was c.loop-cluster.invariant.1 (omega arith) read ∙ omega arith in (
      pruned_more change gone c.args.book.now m cs left (g.S.Store.model c.prune_cluster.new.store) i was c.prune_cluster.new.cluster
          (omega arith) read c.loop-cluster.invariant.0
          (cut.after ∙ ap (λ (k : ℕ). change k (group was)) own)
          (cut.store ∙ ap (λ (k : ℕ). discard k (gone k) (vec_items was.kept) left) own)
          ∙ ap (λ (k : ℕ). prune change gone k (view c.args.book.now m)) (sym (add-one i)),
      placed_set 0 cs i was c.prune_cluster.new.cluster c.loop-cluster.invariant.1 (omega arith) read cut.own,
    )
