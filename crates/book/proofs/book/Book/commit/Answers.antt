-- the cluster at the position has it as its own
use Rattle.std.proofs.Common.{◌≡◌, ℕ, vec_items, ap, ◌∙◌, arith}
use Rattle.law.specs.Book.{with_clusters}
use Rattle.law.specs.Rounds.{saved}
use Rattle.book.specs.View.{view, group}
use Rattle.book.proofs.Groups.{group-set}
use Rattle.book.proofs.Placing.{own_at, placed_set}
use Rattle.book.proofs.book.Book.commit.Goals as goal

pub invariant_of-self-clause-placed : goal.invariant_of-self-clause-placed
invariant_of-self-clause-placed c =
    let b = c.args.self.now in
    let len = b.clusters.ok.0 in
    placed_set 0 (vec_items b.clusters) c.args.i c.index_mut.result.now c.commit.new.self b.placed (omega arith) c.index_mut.ensures.value c.commit.ensures.own

pub returns : goal.returns
returns c =
    let b = c.args.self.now in
    let len = b.clusters.ok.0 in
    let it = c.index_mut.result.now in
    let own : it.own ≡ c.args.i = own_at 0 (vec_items b.clusters) c.args.i it b.placed (omega arith) c.index_mut.ensures.value ∙ omega arith in
    let after = c.commit.ensures.after ∙ ap (λ (z : ℕ). saved z (group it)) own in
    λ m. ap (with_clusters (view b m)) (group-set (vec_items b.clusters) c.args.i it c.commit.new.self (saved c.args.i) (omega arith) c.index_mut.ensures.value after)
