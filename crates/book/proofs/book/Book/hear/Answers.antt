-- the cluster at the position has it as its own, and the sender is another
use Rattle.std.proofs.Common.{vec_items, vec_len, ap, arith}
use Rattle.law.specs.Book.{with_clusters}
use Rattle.book.specs.Logs.{heard_from}
use Rattle.book.specs.View.{view}
use Rattle.book.proofs.Groups.{group-set}
use Rattle.book.proofs.Messages.{is_between_lem}
use Rattle.book.proofs.Placing.{own_at, placed_set}
use Rattle.book.proofs.book.Book.hear.Goals as goal

pub hear-requires : goal.hear-requires
hear-requires c =
    let b = c.args.self.now in
    let len = b.clusters.ok.0 in
    let few = b.few in
    let two = is_between_lem (vec_len b.clusters) c.args.from c.args.i c.requires in
    let near = two.from in
    let to = two.to in
    let own = own_at 0 (vec_items b.clusters) c.args.i c.index_mut.result.now b.placed (omega arith) c.index_mut.ensures.value in
    record { from_within = omega arith; apart = λ e. two.apart (omega arith) }

pub invariant_of-self-clause-placed : goal.invariant_of-self-clause-placed
invariant_of-self-clause-placed c =
    let b = c.args.self.now in
    let len = b.clusters.ok.0 in
    let to = (is_between_lem (vec_len b.clusters) c.args.from c.args.i c.requires).to in
    placed_set 0 (vec_items b.clusters) c.args.i c.index_mut.result.now c.hear.new.self b.placed (omega arith) c.index_mut.ensures.value c.hear.ensures.own

pub returns-clause-after : goal.returns-clause-after
returns-clause-after c =
    let b = c.args.self.now in
    let len = b.clusters.ok.0 in
    let to = (is_between_lem (vec_len b.clusters) c.args.from c.args.i c.requires).to in
    λ m. ap (with_clusters (view b m)) (group-set (vec_items b.clusters) c.args.i c.index_mut.result.now c.hear.new.self (heard_from c.args.from c.args.number) (omega arith) c.index_mut.ensures.value c.hear.ensures.after)
