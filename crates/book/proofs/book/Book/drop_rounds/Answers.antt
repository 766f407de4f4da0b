use Rattle.std.proofs.Common.{◌≡◌, map, get_or, vec_items, ap, ◌∙◌, sym, refl, arith}
use Rattle.std.proofs.lemmas.List.{map-set, get_or-map, length-map}
use Rattle.std.proofs.lemmas.List.Edits.{map_over_more}
use Rattle.book.specs.View.{group}
use Rattle.book.proofs.Dropping.{quiet}
use Rattle.book.proofs.Placing.{placed_set}
use Rattle.book.proofs.book.Book.drop_rounds.Goals as goal

pub loop-cluster-preserved : goal.loop-cluster-preserved
loop-cluster-preserved c =
    let len = c.args.self.now.clusters.ok.0 in
    let items = c.loop-cluster.cluster-items in
    let i = c.loop-cluster.cluster-index in
    let it = get_or items i c.cluster-item.result in
    let gs = map group (vec_items c.args.self.now.clusters) in
    let many = length-map (vec_items c.args.self.now.clusters) group in
    let read : group it ≡ get_or (map group items) i (group it) = sym (get_or-map group items i c.cluster-item.result (group it) (omega arith)) in (
      map-set group items i _ ∙ map_over_more quiet gs (map group items) i (group it) (omega arith) c.loop-cluster.invariant.0 read,
      placed_set 0 items i it _ c.loop-cluster.invariant.1 (omega arith) (ap (get_or items i) c.cluster-item.is) refl,
    )
