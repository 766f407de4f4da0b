-- the round that ends had room for its checkpoint and a number
use Rattle.std.proofs.Common.{◌≡◌, ℕ, ◌+◌, ◌<◌, true, List, [], ◌∷◌, ◌++◌, set, is_some, None, vec_items, sym, refl, subst, add-one, arith, rules}
use Rattle.std.proofs.lemmas.List.{get_or-set_same}
use Rattle.law.specs.declared.Checkpoint.{Checkpoint}
use Rattle.law.specs.Book.{Cluster as Group, entry}
use Rattle.std.specs.List.{AllByRecursion as All}
use Rattle.std.specs.Ordering.{nat_cmp}
use Rattle.ordered.specs.Seek.{ascending}
use Rattle.book.specs.Rules.{number_of, topped}
use Rattle.book.proofs.Rising.{can_end_lem, topped-below, topped_push, ascending_push}
use Rattle.book.proofs.cluster.Cluster.commit.Goals as goal

abbrev shows : List ℕ → List Checkpoint → Group
shows row ks = record { row = row; kept = ks; round = None }

pub invariant_of-self : goal.invariant_of-self
invariant_of-self c =
    let was = c.args.self.now in
    let own = was.own in
    let e = can_end_lem (is_some was.round) _ _ c.requires was.ends in
    let n = entry was.row own in
    let row : List ℕ = set was.row own (n + 1) in
    let new : Checkpoint = record { number = n + 1; row = row } in
    let own-entry : entry row own ≡ n + 1 = get_or-set_same was.row own (n + 1) 0 (search rules) in
    let items : vec_items c.push_reserved.new.self ≡ vec_items was.kept ++ (new ∷ []) = c.push_reserved.ensures.items in
    let len = c.push_reserved.ensures.len in
    let cap = c.push_reserved.ensures.capacity in
    let room = was.room in
    record {
      within = was.within;
      room = omega arith;
      few = omega arith;
      ascends = subst (λ (ks : List Checkpoint). ascending nat_cmp number_of ks ≡ true) (sym items) (ascending_push number_of (vec_items was.kept) new was.ascends (subst (λ (k : ℕ). All (λ x. number_of x < k) (vec_items was.kept)) (sym (add-one n)) (topped-below own n (vec_items was.kept) was.topped)));
      topped = subst (λ (ks : List Checkpoint). topped own (entry row own) ks ≡ true) (sym items) (topped_push own n (entry row own) (vec_items was.kept) new was.topped (omega arith) refl (sym own-entry));
      ends = refl;
    }
