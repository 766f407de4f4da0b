-- the row stays, and the checkpoints from the bound on
use Rattle.std.proofs.Common.{◌≡◌, leb, filter, vec_items, slice_index, arith, rules, tests}
use Rattle.std.proofs.lemmas.Fn.{filter_same}
use Rattle.pruning.proofs.Staying.{cluster-stays}
use Rattle.pruning.proofs.Cutting.{from_shown}
use Rattle.pruning.proofs.cut.CollectCut.change.Goals as goal

pub invariant_of-cluster : goal.invariant_of-cluster
invariant_of-cluster c =
    let was = c.args.cluster.now in
    let items : vec_items c.retain.new.self ≡ filter (λ k. leb (slice_index c.args.self.now.bounds c.args.cluster.now.own) k.number) (vec_items c.args.cluster.now.kept) = filter_same _ _ _ (λ x b q k. search (rules, tests)) _ _ c.retain.ensures.filtered in
    let s = cluster-stays was was.row c.retain.new.self (λ k. leb (slice_index c.args.self.now.bounds was.own) k.number) items c.retain.ensures.capacity (omega arith) (λ k passes low. low) in
    record { within = was.within; room = s.room; few = s.few; ascends = s.ascends; topped = s.topped; ends = s.ends }

pub returns-clause-after : goal.returns-clause-after
returns-clause-after c =
    let items : vec_items c.retain.new.self ≡ filter (λ k. leb (slice_index c.args.self.now.bounds c.args.cluster.now.own) k.number) (vec_items c.args.cluster.now.kept) = filter_same _ _ _ (λ x b q k. search (rules, tests)) _ _ c.retain.ensures.filtered in
    from_shown c.args.cluster.now (slice_index c.args.self.now.bounds c.args.cluster.now.own) (vec_items c.retain.new.self) items
