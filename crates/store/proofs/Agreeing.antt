-- Two rising tables that hold the same pairs have the same first row: else the smaller of the two would be ahead
-- of everything in the other table. So the pairs are the same exactly when they are the same row by row.
use Rattle.std.proofs.Common.{◌≡◌, ℕ, zero, suc, ◌<◌, Bool, true, false, ◌⊎◌, List, [], ◌∷◌, length, is_some, Some, Decides, MatchBool, get_or, subst, sym, refl, ap, ◌∙◌, inl, inr, arith}
use Rattle.std.proofs.lemmas.Bool.{cond-true, cond-false, cases_Bool, both_ways}
use Rattle.std.proofs.lemmas.Bool.Decides.{nat_tests}
use Rattle.std.proofs.lemmas.List.FromFn.{length-range_with_len, get_or-range_with_len}
use Rattle.std.specs.List.{AllWithin, HoldsAt, range_with_len}
use Rattle.store.specs.Table.{TableRow, both, under, before, lookup, row_at}
use Rattle.store.specs.Formed.{leads, rising}
use Rattle.store.specs.Agree.{Agree, agreeing, same_key}
use Rattle.store.proofs.Orders.{both_true, both_from, both_false, under_own}
use Rattle.store.proofs.Tables.{lookup-ahead}

-- row by row
pub agreeing_lengths : (a b : List TableRow) → (length a ≡ length b → ⊥) → agreeing a b ≡ false
agreeing_lengths [] [] ne = absurd (ne refl)
agreeing_lengths [] (y ∷ ys) ne = refl
agreeing_lengths (x ∷ xs) [] ne = refl
agreeing_lengths (x ∷ xs) (y ∷ ys) ne = both_false (under x.cluster x.number y) (agreeing xs ys) (agreeing_lengths xs ys (λ e. ne (ap suc e)))

pub agreeing_differ : (a b : List TableRow) (i : ℕ) → i < length a → same_key (row_at a i) (row_at b i) ≡ false → agreeing a b ≡ false
agreeing_differ [] b i within e = absurd (omega arith)
agreeing_differ (x ∷ xs) [] i within e = refl
agreeing_differ (x ∷ xs) (y ∷ ys) zero within e = ap (λ p. both p (agreeing xs ys)) e
agreeing_differ (x ∷ xs) (y ∷ ys) (suc i) within e = both_false (under x.cluster x.number y) (agreeing xs ys) (agreeing_differ xs ys i (omega arith) e)

pub agreeing_all : (a b : List TableRow) → length a ≡ length b → ((i : ℕ) → i < length a → same_key (row_at a i) (row_at b i) ≡ true) → agreeing a b ≡ true
agreeing_all [] [] e all = refl
agreeing_all [] (y ∷ ys) e all = absurd (omega arith)
agreeing_all (x ∷ xs) [] e all = absurd (omega arith)
agreeing_all (x ∷ xs) (y ∷ ys) e all =
    both_from (under x.cluster x.number y) (agreeing xs ys) (all 0 (omega arith)) (agreeing_all xs ys (omega arith) (λ i lt. all (suc i) (omega arith)))

-- rows under the same cluster and number are found alike
same_under : (x y : TableRow) (c n : ℕ) → under x.cluster x.number y ≡ true → under c n x ≡ under c n y
same_under x y c n h = grind (arith, nat_tests)

held_rest : (row : TableRow) (rows : List TableRow) (c n : ℕ) → under c n row ≡ false → is_some (lookup (row ∷ rows) c n) ≡ is_some (lookup rows c n)
held_rest row rows c n h = ap is_some (cond-false (under c n row) (Some row.words) (lookup rows c n) h)

held_first : (row : TableRow) (rows : List TableRow) (c n : ℕ) → under c n row ≡ true → is_some (lookup (row ∷ rows) c n) ≡ true
held_first row rows c n h = ap is_some (cond-true (under c n row) (Some row.words) (lookup rows c n) h)

pub agree_from : (a b : List TableRow) → agreeing a b ≡ true → Agree a b
agree_from [] [] h c n = refl
agree_from [] (y ∷ ys) h c n = absurd (both_ways _ refl h)
agree_from (x ∷ xs) [] h c n = absurd (both_ways _ refl h)
agree_from (x ∷ xs) (y ∷ ys) h c n =
    let parts = both_true (under x.cluster x.number y) (agreeing xs ys) h in
    let alike = same_under x y c n parts.0 in
    elim (cases_Bool (under c n x)) [
      | inl t ↦ held_first x xs c n t ∙ sym (held_first y ys c n (sym alike ∙ t))
      | inr f ↦ held_rest x xs c n f ∙ agree_from xs ys parts.1 c n ∙ sym (held_rest y ys c n (sym alike ∙ f))
    ]

-- a row that is ahead of a rising table is not in it
not-ahead : (x : TableRow) (xs : List TableRow) (b : List TableRow) → rising b ≡ true → leads x.cluster x.number b ≡ true → Agree (x ∷ xs) b → ⊥
not-ahead x xs b up h same =
    both_ways true
    (sym (held_first x xs x.cluster x.number (under_own x)) ∙ same x.cluster x.number ∙ ap is_some (lookup-ahead b x.cluster x.number h up)) refl

-- a row's own pair stands nowhere behind it
own_first : (x : TableRow) (xs : List TableRow) (c n : ℕ) → rising (x ∷ xs) ≡ true → under c n x ≡ true → is_some (lookup xs c n) ≡ false
own_first x xs c n up h =
    let parts = both_true (leads x.cluster x.number xs) (rising xs) up in
    ap is_some (lookup-ahead xs c n (lead_own xs parts.0) parts.1)
  where
    lead_own : (rows : List TableRow) → leads x.cluster x.number rows ≡ true → leads c n rows ≡ true
    lead_own [] l = refl
    lead_own (row ∷ rows) l = grind (arith, nat_tests)

three : (x y : TableRow) → ((under x.cluster x.number y ≡ true) ⊎ (before x.cluster x.number y ≡ true)) ⊎ (before y.cluster y.number x ≡ true)
three x y = grind (arith, nat_tests)

pub agree_to : (a b : List TableRow) → rising a ≡ true → rising b ≡ true → Agree a b → agreeing a b ≡ true
agree_to [] [] up vp same = refl
agree_to [] (y ∷ ys) up vp same = absurd (not-ahead y ys [] refl refl (λ c n. sym (same c n)))
agree_to (x ∷ xs) [] up vp same = absurd (not-ahead x xs [] refl refl same)
agree_to (x ∷ xs) (y ∷ ys) up vp same =
    elim (three x y) [
      | inl l ↦ elim l [
        | inl own ↦ both_from (under x.cluster x.number y) (agreeing xs ys) own (agree_to xs ys (both_true (leads x.cluster x.number xs) (rising xs) up).1 (both_true (leads y.cluster y.number ys) (rising ys) vp).1 (rest own))
        | inr ahead ↦ absurd (not-ahead x xs (y ∷ ys) vp ahead same)
      ]
      | inr ahead ↦ absurd (not-ahead y ys (x ∷ xs) up ahead (λ c n. sym (same c n)))
    ]
  where
    rest : under x.cluster x.number y ≡ true → Agree xs ys
    rest own c n =
        let alike = same_under x y c n own in
        elim (cases_Bool (under c n x)) [
          | inl t ↦ own_first x xs c n up t ∙ sym (own_first y ys c n vp (sym alike ∙ t))
          | inr f ↦ sym (held_rest x xs c n f) ∙ same c n ∙ held_rest y ys c n (sym alike ∙ f)
        ]

pub agree_decides : (a b : List TableRow) (r : Bool) → rising a ≡ true → rising b ≡ true → r ≡ agreeing a b → Decides r (Agree a b)
agree_decides a b r up vp e = ((λ t. agree_from a b (sym e ∙ t)), (λ same. e ∙ agree_to a b up vp same))

-- the rows at a position have the same key, or differ
abbrev pub Alike : List TableRow → List TableRow → ℕ → Type 0
Alike a b at = same_key (row_at a at) (row_at b at) ≡ true

abbrev pub Unlike : List TableRow → List TableRow → ℕ → Type 0
Unlike a b at = same_key (row_at a at) (row_at b at) ≡ false

position_at : (n i : ℕ) → i < n → get_or (range_with_len 0 n) i 0 ≡ i
position_at n i lt = let at = get_or-range_with_len 0 n i 0 lt in omega arith

-- what a test of every position tells
pub agreeing_by : (a b : List TableRow) (n : ℕ) (r : Bool) → length a ≡ n → length b ≡ n
    → MatchBool r (AllWithin (Alike a b) (range_with_len 0 n) 0 (length (range_with_len 0 n))) ((k : ℕ) × (k < length (range_with_len 0 n)) × HoldsAt (Unlike a b) (range_with_len 0 n) k)
    → r ≡ agreeing a b
agreeing_by a b n true la lb all =
    let len = length-range_with_len 0 n in
    sym (agreeing_all a b (la ∙ sym lb) (λ i lt. subst (Alike a b) (position_at n i (omega arith)) (all i 0 (omega arith) (omega arith))))
agreeing_by a b n false la lb one =
    let len = length-range_with_len 0 n in
    let within = one.1 in
    sym (agreeing_differ a b one.0 (omega arith) (subst (Unlike a b) (position_at n one.0 (omega arith)) (one.2 0)))
