-- the cluster at the position has it as its own, so its round can end as the book shows it
use Rattle.std.proofs.Common.{◌≡◌, ℕ, true, length, is_some, vec_items, sym, ap, subst, arith}
use Rattle.law.specs.Book.{Cluster as Group, with_clusters, with_round, entry}
use Rattle.book.specs.Rules.{can_end}
use Rattle.book.specs.View.{view}
use Rattle.book.proofs.Groups.{group_at, group-set}
use Rattle.book.proofs.Placing.{own_at, placed_set}
use Rattle.book.proofs.book.Book.set_round.Goals as goal

pub set_round-requires : goal.set_round-requires
set_round-requires c =
    let b = c.args.self.now in
    let len = b.clusters.ok.0 in
    let it = c.index_mut.result.now in
    let own = own_at 0 (vec_items b.clusters) c.args.i it b.placed (omega arith) c.index_mut.ensures.value in
    subst (λ (z : ℕ). can_end (is_some c.args.round) (length (vec_items it.kept)) (entry it.row z) ≡ true) (omega arith)
    (subst (λ (g : Group). can_end (is_some c.args.round) (length g.kept) (entry g.row c.args.i) ≡ true)
    (sym (group_at (vec_items b.clusters) c.args.i it (omega arith) c.index_mut.ensures.value)) c.requires.ends)

pub invariant_of-self-clause-placed : goal.invariant_of-self-clause-placed
invariant_of-self-clause-placed c =
    let b = c.args.self.now in
    let len = b.clusters.ok.0 in
    placed_set 0 (vec_items b.clusters) c.args.i c.index_mut.result.now c.set_round.new.self b.placed (omega arith) c.index_mut.ensures.value c.set_round.ensures.own

pub returns : goal.returns
returns c =
    let b = c.args.self.now in
    let len = b.clusters.ok.0 in
    λ m. ap (with_clusters (view b m)) (group-set (vec_items b.clusters) c.args.i c.index_mut.result.now c.set_round.new.self (λ g. with_round g c.args.round) (omega arith) c.index_mut.ensures.value c.set_round.ensures.after)
