-- What holds of every item, and the order of the items, holds of those that a filter keeps: each is an induction over the list.
use Rattle.std.proofs.Common.{◌≡◌, ℕ, ◌<◌, Bool, true, ◌&&◌, List, [], ◌∷◌, map, filter, refl, ap, ◌∙◌, arith}
use Rattle.std.proofs.lemmas.Bool.{cond_both, and_parts, and_from}
use Rattle.store.specs.Table.{both}
use Rattle.store.proofs.Orders.{both_true, both_from}
use Rattle.std.specs.Ordering.{nat_cmp, is_lt}
use Rattle.ordered.proofs.Seeking.{lt-below, below-lt}
use Rattle.ordered.specs.Seek.{leads, ascending}

-- whether every item passes
abbrev pub every : {X : Type 0} → (X → Bool) → List X → Bool
every t [] = true
every t (x ∷ xs) = both (t x) (every t xs)

module _ {X : Type 0} (p t u : X → Bool) (more : (x : X) → p x ≡ true → t x ≡ true → u x ≡ true) where
  -- what passes t passes u where it is kept
  pub every_kept : (xs : List X) → every t xs ≡ true → every u (filter p xs) ≡ true
  every_kept [] all = refl
  every_kept (x ∷ xs) all =
      let parts = both_true (t x) (every t xs) all in
      cond_both (p x) _ _ (λ (z : List X). every u z ≡ true)
      (λ passes. both_from _ _ (more x passes parts.0) (every_kept xs parts.1))
      (λ _. every_kept xs parts.1)

pub every_map : {X : Type 0} (f : X → X) (t : X → Bool) → ((x : X) → t (f x) ≡ t x) → (xs : List X) → every t (map f xs) ≡ every t xs
every_map f t same [] = refl
every_map f t same (x ∷ xs) = ap (λ (z : Bool). both z (every t (map f xs))) (same x) ∙ ap (both (t x)) (every_map f t same xs)

module _ {X : Type 0} (key : X → ℕ) where
  leads_through : (x y : X) (ys : List X) → key x < key y → leads nat_cmp key y ys ≡ true → leads nat_cmp key x ys ≡ true
  leads_through x y [] lt up = refl
  leads_through x y (z ∷ zs) lt up = let more = below-lt (key y) (key z) up in lt-below (key x) (key z) (omega arith)

  leads_kept : (p : X → Bool) (x : X) (ys : List X) → ascending nat_cmp key (x ∷ ys) ≡ true → leads nat_cmp key x (filter p ys) ≡ true
  leads_kept p x [] up = refl
  leads_kept p x (y ∷ ys) up =
      let parts = and_parts (leads nat_cmp key x (y ∷ ys)) (ascending nat_cmp key (y ∷ ys)) up in
      let rest = and_parts (leads nat_cmp key y ys) (ascending nat_cmp key ys) parts.1 in
      cond_both (p y) _ _ (λ (z : List X). leads nat_cmp key x z ≡ true)
      (λ _. parts.0)
      (λ _. leads_kept p x ys (and_from _ _ (leads_through x y ys (below-lt (key x) (key y) parts.0) rest.0) rest.1))

  pub ascending_kept : (p : X → Bool) (xs : List X) → ascending nat_cmp key xs ≡ true → ascending nat_cmp key (filter p xs) ≡ true
  ascending_kept p [] up = refl
  ascending_kept p (x ∷ xs) up =
      let rest = (and_parts (leads nat_cmp key x xs) (ascending nat_cmp key xs) up).1 in
      cond_both (p x) _ _ (λ (z : List X). ascending nat_cmp key z ≡ true)
      (λ _. and_from _ _ (leads_kept p x xs up) (ascending_kept p xs rest))
      (λ _. ascending_kept p xs rest)

  module _ (f : X → X) (same : (x : X) → key (f x) ≡ key x) where
    leads-map : (x : X) (xs : List X) → leads nat_cmp key (f x) (map f xs) ≡ leads nat_cmp key x xs
    leads-map x [] = refl
    leads-map x (y ∷ ys) = ap (λ (z : ℕ). is_lt (nat_cmp z (key (f y)))) (same x) ∙ ap (λ (z : ℕ). is_lt (nat_cmp (key x) z)) (same y)

    pub ascending-map : (xs : List X) → ascending nat_cmp key (map f xs) ≡ ascending nat_cmp key xs
    ascending-map [] = refl
    ascending-map (x ∷ xs) = ap (λ (z : Bool). z && ascending nat_cmp key (map f xs)) (leads-map x xs) ∙ ap (λ (z : Bool). leads nat_cmp key x xs && z) (ascending-map xs)
