-- The search goes over a front of smaller keys, so it stands where `seek` stops; and what `seek` answers has its
-- meaning in an ascending list, since every key behind a larger one is larger too.
use Rattle.std.proofs.Common.{◌≡◌, ℕ, zero, suc, ◌<◌, true, false, true≢false, ◌⊎◌, inl, inr, List, [], ◌∷◌, length, get_or, Some, Option, Ok, Err, Result, sym, refl, ap, ◌∙◌, subst, arith}
use Rattle.std.specs.declared.cmp.Ordering.{Ordering}
use Rattle.std.specs.declared.cmp.Ordering.TheVariants.{Less, Equal, Greater}
use Rattle.std.specs.Ordering.{ordering_reverse, is_lt, is_eq, is_some_and, nat_cmp}
use Rattle.std.proofs.lemmas.Bool.Decides.{nat_tests}
use Rattle.std.specs.Cmp.{IsTotalOrder}
use Rattle.std.proofs.lemmas.Bool.{and_parts}
use Rattle.std.specs.List.{AllWithin}
use Rattle.ordered.specs.Seek.{seek, stands, onward, leads, ascending, Sought}

-- what the tests of an order say of the order itself
pub equal_by : (o : Ordering) → is_eq o ≡ true → o ≡ Equal
equal_by Less e = absurd (true≢false (sym e))
equal_by Equal e = refl
equal_by Greater e = absurd (true≢false (sym e))

pub greater_by : (o : Ordering) (p : Option Ordering) → p ≡ Some o → is_some_and is_lt p ≡ false → is_eq o ≡ false → o ≡ Greater
greater_by o p e lt eq = neither o (sym (ap (is_some_and is_lt) e) ∙ lt) eq
  where
    neither : (o : Ordering) → is_lt o ≡ false → is_eq o ≡ false → o ≡ Greater
    neither Less l e = absurd (true≢false l)
    neither Equal l e = absurd (true≢false e)
    neither Greater l e = refl

module _ {X K : Type 0} (cmp : K → K → Ordering) (key : X → K) where
  -- records below the key, that have it, and above it
  abbrev Below : K → X → Type 0
  Below k x = cmp (key x) k ≡ Less

  abbrev Same : K → X → Type 0
  Same k x = cmp (key x) k ≡ Equal

  abbrev Above : K → X → Type 0
  Above k x = cmp (key x) k ≡ Greater

  -- the front below the key, one record shorter
  behind : (x : X) (xs : List X) (k : K) (i : ℕ) → AllWithin (Below k) (x ∷ xs) 0 (suc i) → AllWithin (Below k) xs 0 i
  behind x xs k i front j d low lt = front (suc j) d (omega arith) (omega arith)

  seek_on : (x : X) (xs : List X) (k : K) (o : Ordering) → cmp (key x) k ≡ o → seek cmp key (x ∷ xs) k ≡ stands o (seek cmp key xs k)
  seek_on x xs k o e = ap (λ o. stands o (seek cmp key xs k)) e

  pub seek_found : (xs : List X) (k : K) (i : ℕ) (x : X) → i < length xs → AllWithin (Below k) xs 0 i → x ≡ get_or xs i x → Same k x → seek cmp key xs k ≡ Ok i
  seek_found [] k i x within front at e = absurd (omega arith)
  seek_found (y ∷ xs) k zero x within front at e = seek_on y xs k Equal (subst (Same k) at e)
  seek_found (y ∷ xs) k (suc i) x within front at e =
      seek_on y xs k Less (front 0 y (omega arith) (omega arith)) ∙ ap onward (seek_found xs k i x (omega arith) (behind y xs k i front) at e)

  pub seek_gap : (xs : List X) (k : K) (i : ℕ) (x : X) → i < length xs → AllWithin (Below k) xs 0 i → x ≡ get_or xs i x → Above k x → seek cmp key xs k ≡ Err i
  seek_gap [] k i x within front at e = absurd (omega arith)
  seek_gap (y ∷ xs) k zero x within front at e = seek_on y xs k Greater (subst (Above k) at e)
  seek_gap (y ∷ xs) k (suc i) x within front at e =
      seek_on y xs k Less (front 0 y (omega arith) (omega arith)) ∙ ap onward (seek_gap xs k i x (omega arith) (behind y xs k i front) at e)

  pub seek-end : (xs : List X) (k : K) → AllWithin (Below k) xs 0 (length xs) → seek cmp key xs k ≡ Err (length xs)
  seek-end [] k front = refl
  seek-end (y ∷ xs) k front =
      seek_on y xs k Less (front 0 y (omega arith) (omega arith)) ∙ ap onward (seek-end xs k (behind y xs k (length xs) front))

  module _ (total : IsTotalOrder cmp) where
    turned : (a b : K) → cmp b a ≡ Less → cmp a b ≡ Greater
    turned a b e = total.antisymm a b ∙ ap ordering_reverse e

    lower : (o : Ordering) → is_lt o ≡ true → o ≡ Less
    lower Less e = refl
    lower Equal e = absurd (true≢false (sym e))
    lower Greater e = absurd (true≢false (sym e))

    -- in an ascending list every record behind the first has a larger key
    all_above : (x : X) (xs : List X) → ascending cmp key (x ∷ xs) ≡ true → AllWithin (λ y. cmp (key x) (key y) ≡ Less) xs 0 (length xs)
    all_above x [] up j d low lt = absurd (omega arith)
    all_above x (y ∷ ys) up zero d low lt = lower (cmp (key x) (key y)) (and_parts _ _ up).0
    all_above x (y ∷ ys) up (suc j) d low lt =
        total.trans (key x) (key y) (key (get_or ys j d))
        (lower (cmp (key x) (key y)) (and_parts (leads cmp key x (y ∷ ys)) (ascending cmp key (y ∷ ys)) up).0)
        (all_above y ys (and_parts (leads cmp key x (y ∷ ys)) (ascending cmp key (y ∷ ys)) up).1 j d (omega arith) (omega arith))

    -- the key sought is at or below the first, so below all behind it
    above_all : (x : X) (xs : List X) (k : K) → ascending cmp key (x ∷ xs) ≡ true → (Same k x ⊎ Above k x) → AllWithin (Above k) xs 0 (length xs)
    above_all x xs k up (inl e) j d low lt = turned (key (get_or xs j d)) k (sym (total.congr (key x) k (key (get_or xs j d)) e) ∙ all_above x xs up j d low lt)
    above_all x xs k up (inr g) j d low lt =
        turned (key (get_or xs j d)) k (total.trans k (key x) (key (get_or xs j d)) (total.antisymm k (key x) ∙ ap ordering_reverse g) (all_above x xs up j d low lt))

    pub sought : (xs : List X) (k : K) → ascending cmp key xs ≡ true → Sought cmp key xs k (seek cmp key xs k)
    sought [] k up = (omega arith, λ j d low lt. absurd (omega arith), λ j d low lt. absurd (omega arith))
    sought (x ∷ xs) k up = by_order (cmp (key x) k) (sought xs k (and_parts (leads cmp key x xs) (ascending cmp key xs) up).1) refl
      where
        further : (r : Result ℕ ℕ) → Below k x → Sought cmp key xs k r → Sought cmp key (x ∷ xs) k (onward r)
        further (Ok i) lt s = (omega (arith, s.0), s.1)
        further (Err i) lt s = (omega (arith, s.0), front, back)
          where
            front : AllWithin (Below k) (x ∷ xs) 0 (suc i)
            front zero d low l = lt
            front (suc j) d low l = s.1 j d (omega arith) (omega arith)

            back : AllWithin (Above k) (x ∷ xs) (suc i) (length (x ∷ xs))
            back zero d low l = absurd (omega arith)
            back (suc j) d low l = s.2 j d (omega arith) (omega arith)

        at_or_behind : Above k x → AllWithin (Above k) (x ∷ xs) 0 (length (x ∷ xs))
        at_or_behind gt zero d low l = gt
        at_or_behind gt (suc j) d low l = above_all x xs k up (inr gt) j d (omega arith) (omega arith)

        by_order : (o : Ordering) → Sought cmp key xs k (seek cmp key xs k) → cmp (key x) k ≡ o → Sought cmp key (x ∷ xs) k (stands o (seek cmp key xs k))
        by_order Less s e = further (seek cmp key xs k) e s
        by_order Equal s e = (omega arith, λ d. e)
        by_order Greater s e = (omega arith, (λ j d low lt. absurd (omega arith)), at_or_behind e)

    -- the same of an answer that is what `seek` gives
    pub sought_by : (xs : List X) (k : K) (r : Result ℕ ℕ) → r ≡ seek cmp key xs k → ascending cmp key xs ≡ true → Sought cmp key xs k r
    sought_by xs k r e up = subst (Sought cmp key xs k) (sym e) (sought xs k up)

-- number keys: the tests of their order, as the order itself
pub lt-below : (a b : ℕ) → a < b → is_lt (nat_cmp a b) ≡ true
lt-below a b lt = grind (arith, nat_tests)

pub below-lt : (a b : ℕ) → is_lt (nat_cmp a b) ≡ true → a < b
below-lt a b e = grind (arith, nat_tests)
