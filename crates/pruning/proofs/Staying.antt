-- A cluster that loses checkpoints stays sound: the filter keeps what the test of each checkpoint says, and the row that it goes
-- back to has the number of that place as its own entry, so the cluster's number does not rise.
use Rattle.std.proofs.Common.{◌≡◌, ℕ, ◌≤◌, Bool, true, false, eqb, ltb, leb, List, [], ◌∷◌, length, is_some, Some, None, vec_items, vec_len, vec_capacity, filter, Option, sym, refl, ap, ◌∙◌, subst, inl, inr, arith}
use Rattle.std.specs.Global.{Vec}
use Rattle.std.proofs.lemmas.Bool.{cond-true, cond-false, cond_both, cases_Bool, eqb-true, leb-true, ltb-true, lt-ltb, le-leb}
use Rattle.store.specs.Table.{both}
use Rattle.store.proofs.Orders.{both_true, both_from}
use Rattle.std.specs.Ordering.{nat_cmp}
use Rattle.ordered.specs.Seek.{ascending}
use Rattle.law.specs.declared.Checkpoint.{Checkpoint}
use Rattle.law.specs.declared.Round.{Round}
use Rattle.law.specs.Book.{entry, checkpoint_at, row_or, stays, most_kept, last_number}
use Rattle.book.specs.declared.cluster.Cluster.{Cluster}
use Rattle.book.specs.Rules.{topped, can_end, number_of}
use Rattle.pruning.specs.Cutting.{row_back}
use Rattle.law.proofs.Prune.{length_kept}
use Rattle.pruning.proofs.Filtering.{every, every_kept, ascending_kept}

-- the test of one checkpoint of the cluster i, whose number is top
abbrev fine : ℕ → ℕ → Checkpoint → Bool
fine i top c = both (eqb (entry c.row i) c.number) (leb c.number top)

topped_every : (i top : ℕ) (cs : List Checkpoint) → topped i top cs ≡ every (fine i top) cs
topped_every i top [] = refl
topped_every i top (c ∷ cs) = ap (both (fine i top c)) (topped_every i top cs)

-- what is kept is topped by another number, if that is not below any of them
pub topped_kept : (i top new : ℕ) (p : Checkpoint → Bool) (cs : List Checkpoint) → ((c : Checkpoint) → p c ≡ true → c.number ≤ top → c.number ≤ new) → topped i top cs ≡ true → topped i new (filter p cs) ≡ true
topped_kept i top new p cs low t =
    topped_every i new (filter p cs)
    ∙ every_kept p (fine i top) (fine i new)
    (λ c passes h. let parts = both_true _ _ h in both_from _ _ parts.0 (le-leb _ _ (low c passes (leb-true _ _ parts.1))))
    cs (sym (topped_every i top cs) ∙ t)

-- the checkpoint at a place has that place as its own entry, and it is not above the cluster's number
pub at_place : (i top n : ℕ) (cs : List Checkpoint) (c : Checkpoint) → topped i top cs ≡ true → checkpoint_at cs n ≡ Some c → (entry c.row i ≡ n) × (n ≤ top)
at_place i top n [] c t found = let z : ◌≡◌ {A = ℕ} 0 1 = cc in absurd (omega arith)
at_place i top n (x ∷ cs) c t found =
    let parts = both_true (fine i top x) (topped i top cs) t in
    elim (cases_Bool (eqb x.number n)) [
      | inl e ↦ (
          let same : Some x ≡ Some c = sym (cond-true _ _ _ e) ∙ found in
          let is : x ≡ c = cc in
          let own = both_true (eqb (entry x.row i) x.number) (leb x.number top) parts.0 in
          let number = eqb-true x.number n e in
          (ap (λ (z : Checkpoint). entry z.row i) (sym is) ∙ eqb-true _ _ own.0 ∙ number, subst (λ (z : ℕ). z ≤ top) number (leb-true _ _ own.1)))
      | inr e ↦ at_place i top n cs c parts.1 (sym (cond-false _ _ _ e) ∙ found)
    ]

-- a cluster's number does not rise as it goes back, and does not fall below what is kept
abbrev pub Settled : ℕ → ℕ → ℕ → Type 0
Settled place top new = (new ≤ top) × ((n : ℕ) → n ≤ place → n ≤ top → n ≤ new)

settled_at : (i place : ℕ) (row : List ℕ) (kept : List Checkpoint) (o : Option Checkpoint) → topped i (entry row i) kept ≡ true → checkpoint_at kept place ≡ o → Settled place (entry row i) (entry (row_or row o) i)
settled_at i place row kept (Some c) t e =
    let own = at_place i (entry row i) place kept c t e in
    (omega arith, λ n a b. omega arith)
settled_at i place row kept None t e = (omega arith, λ n a b. b)

pub settled : (i place : ℕ) (row : List ℕ) (kept : List Checkpoint) → topped i (entry row i) kept ≡ true → Settled place (entry row i) (entry (row_back place row kept) i)
settled i place row kept t =
    cond_both (eqb place stays) row (row_or row (checkpoint_at kept place)) (λ (z : List ℕ). Settled place (entry row i) (entry z i))
    (λ _. (omega arith, λ n a b. b))
    (λ _. settled_at i place row kept (checkpoint_at kept place) t refl)

-- a round that can end can end with fewer checkpoints and a lower number
ends-lower : (round : Bool) (kept fewer number lower : ℕ) → fewer ≤ kept → lower ≤ number → can_end round kept number ≡ true → can_end round fewer lower ≡ true
ends-lower true kept fewer number lower f l t =
    let parts = both_true (ltb kept most_kept) (ltb number last_number) t in
    let a = ltb-true kept most_kept parts.0 in
    let b = ltb-true number last_number parts.1 in
    both_from (ltb fewer most_kept) (ltb lower last_number) (lt-ltb fewer most_kept (omega arith)) (lt-ltb lower last_number (omega arith))
ends-lower false kept fewer number lower f l t = refl

-- what holds of a cluster's row, checkpoints and round
pub record Kept (own : ℕ) (row : List ℕ) (kept : Vec Checkpoint) (round : Option Round) : Type 0 where
  pub room : most_kept ≤ vec_capacity kept
  pub few : vec_len kept ≤ most_kept
  pub ascends : ascending nat_cmp number_of (vec_items kept) ≡ true
  pub topped : topped own (entry row own) (vec_items kept) ≡ true
  pub ends : can_end (is_some round) (vec_len kept) (entry row own) ≡ true

module _ (was : Cluster) (row : List ℕ) (kept : Vec Checkpoint) (p : Checkpoint → Bool) where
  pub cluster-stays : vec_items kept ≡ filter p (vec_items was.kept) → vec_capacity kept ≡ vec_capacity was.kept → entry row was.own ≤ entry was.row was.own → ((c : Checkpoint) → p c ≡ true → c.number ≤ entry was.row was.own → c.number ≤ entry row was.own) → Kept was.own row kept was.round
  cluster-stays items capacity lower low =
      let many = was.kept.ok.0 in
      let left = kept.ok.0 in
      let same = ap length items in
      let less = length_kept p (vec_items was.kept) in
      let fewer : vec_len kept ≤ vec_len was.kept = omega arith in
      let room = was.room in
      let most = was.few in
      record {
        room = omega arith;
        few = omega arith;
        ascends = ap (λ (z : List Checkpoint). ascending nat_cmp number_of z) items ∙ ascending_kept number_of p (vec_items was.kept) was.ascends;
        topped = ap (topped was.own (entry row was.own)) items ∙ topped_kept was.own (entry was.row was.own) (entry row was.own) p (vec_items was.kept) low was.topped;
        ends = ends-lower (is_some was.round) (vec_len was.kept) (vec_len kept) (entry was.row was.own) (entry row was.own) fewer lower was.ends;
      }
