-- Lists that rise stay so when a record with a larger key comes to their end; and the tests of a cluster's checkpoints
-- stay so when its number goes up.
use Rattle.std.proofs.Common.{◌≡◌, ℕ, suc, ◌<◌, ◌≤◌, Bool, true, false, eqb, leb, List, [], ◌∷◌, ◌++◌, sym, refl, ◌∙◌, arith}
use Rattle.std.specs.List.{AllByRecursion as All}
use Rattle.std.proofs.lemmas.Bool.{lt-ltb, ltb-true, le-leb, leb-true, eq-eqb, and_parts, and_from, true≢false}
use Rattle.std.specs.Ordering.{nat_cmp}
use Rattle.ordered.specs.Seek.{ascending, leads}
use Rattle.ordered.proofs.Seeking.{lt-below}
use Rattle.store.specs.Table.{both}
use Rattle.store.proofs.Orders.{both_true}
use Rattle.law.specs.declared.Checkpoint.{Checkpoint}
use Rattle.law.specs.declared.Logged.{Logged}
use Rattle.law.specs.Book.{entry, most_kept, last_number}
use Rattle.book.specs.Rules.{number_of, id_of, topped, ids_below, addressed, between, can_end}
use Rattle.book.proofs.Placing.{both_is}

module _ {X : Type 0} (key : X → ℕ) where
  leads_push : (x : X) (xs : List X) (y : X) → leads nat_cmp key x xs ≡ true → key x < key y → leads nat_cmp key x (xs ++ (y ∷ [])) ≡ true
  leads_push x [] y t lt = lt-below (key x) (key y) lt
  leads_push x (z ∷ zs) y t lt = t

  pub ascending_push : (xs : List X) (y : X) → ascending nat_cmp key xs ≡ true → All (λ x. key x < key y) xs → ascending nat_cmp key (xs ++ (y ∷ [])) ≡ true
  ascending_push [] y up below = refl
  ascending_push (x ∷ xs) y up below =
      let parts = and_parts (leads nat_cmp key x xs) (ascending nat_cmp key xs) up in
      and_from _ _ (leads_push x xs y parts.0 below.0) (ascending_push xs y parts.1 below.1)

pub ids_below_lem : (next : ℕ) (ms : List Logged) → ids_below next ms ≡ true → All (λ m. id_of m < next) ms
ids_below_lem next [] t = tt
ids_below_lem next (m ∷ ms) t = let p = both_true _ _ t in (ltb-true _ _ p.0, ids_below_lem next ms p.1)

pub ids_push : (next id : ℕ) (ms : List Logged) (m : Logged) → ids_below id ms ≡ true → m.message.id ≡ id → id < next → ids_below next (ms ++ (m ∷ [])) ≡ true
ids_push next id [] m t e lt = both_is _ _ (lt-ltb m.message.id next (omega arith)) refl
ids_push next id (x ∷ ms) m t e lt =
    let p = both_true _ _ t in
    let h : x.message.id < id = ltb-true _ _ p.0 in
    both_is _ _ (lt-ltb x.message.id next (omega arith)) (ids_push next id ms m p.1 e lt)

pub addressed_push : (n : ℕ) (ms : List Logged) (m : Logged) → addressed n ms ≡ true → between n m ≡ true → addressed n (ms ++ (m ∷ [])) ≡ true
addressed_push n [] m t b = both_is _ _ b refl
addressed_push n (x ∷ ms) m t b = let p = both_true _ _ t in both_is _ _ p.0 (addressed_push n ms m p.1 b)

pub topped-below : (i top : ℕ) (cs : List Checkpoint) → topped i top cs ≡ true → All (λ c. number_of c < suc top) cs
topped-below i top [] t = tt
topped-below i top (c ∷ cs) t =
    let p = both_true (both (eqb (entry c.row i) c.number) (leb c.number top)) (topped i top cs) t in
    let q : c.number ≤ top = leb-true _ _ (both_true _ _ p.0).1 in
    (omega arith, topped-below i top cs p.1)

-- one checkpoint more, at the number that the cluster goes up to
pub topped_push : (i top n : ℕ) (cs : List Checkpoint) (c : Checkpoint) → topped i top cs ≡ true → top ≤ n → entry c.row i ≡ n → c.number ≡ n → topped i n (cs ++ (c ∷ [])) ≡ true
topped_push i top n [] c t le e f = both_is _ _ (both_is _ _ (eq-eqb _ _ (e ∙ sym f)) (le-leb c.number n (omega arith))) refl
topped_push i top n (x ∷ cs) c t le e f =
    let p = both_true _ _ t in
    let q = both_true _ _ p.0 in
    let l = leb-true x.number top q.1 in
    both_is _ _ (both_is _ _ q.0 (le-leb x.number n (omega arith))) (topped_push i top n cs c p.1 le e f)

-- what an open round has: room and a number
pub can_end_lem : (t : Bool) (kept number : ℕ) → t ≡ true → can_end t kept number ≡ true → (kept < most_kept) × (number < last_number)
can_end_lem true kept number e ends = let p = both_true _ _ ends in (ltb-true _ _ p.0, ltb-true _ _ p.1)
can_end_lem false kept number e ends = absurd (true≢false (sym e))
