-- Where keys are numbers, the search, the test that a list ascends and what an answer means are told by the order of numbers itself.
use Rattle.std.proofs.Common.{◌≡◌, ℕ, ◌<◌, ◌≤◌, Bool, true, false, ◌&&◌, cond, List, [], ◌∷◌, length, Ok, Err, Result, ◌==◌, nat_lt, refl, ap, ap₂, ◌∙◌, arith}
use Rattle.std.specs.declared.cmp.Ordering.TheVariants.{Less, Equal, Greater}
use Rattle.std.specs.Ordering.{is_lt, nat_cmp}
use Rattle.std.specs.List.{HoldsAt, AllWithin}
use Rattle.std.proofs.lemmas.Bool.Decides.{nat_tests}
use Rattle.ordered.specs.Seek.{seek, stands, onward, leads, ascending, Sought}

equal_is : (a b : ℕ) → nat_cmp a b ≡ Equal → a ≡ b
equal_is a b e = grind (arith, nat_tests)

less_is : (a b : ℕ) → nat_cmp a b ≡ Less → a < b
less_is a b e = grind (arith, nat_tests)

greater_is : (a b : ℕ) → nat_cmp a b ≡ Greater → b < a
greater_is a b e = grind (arith, nat_tests)

lt_is : (a b : ℕ) → is_lt (nat_cmp a b) ≡ nat_lt a b
lt_is a b = grind (arith, nat_tests)

module _ {X : Type 0} (key : X → ℕ) where
  abbrev pub SoughtNumber : List X → ℕ → Result ℕ ℕ → Type 0
  SoughtNumber xs k (Ok i) = (i < length xs) × HoldsAt (λ x. key x ≡ k) xs i
  SoughtNumber xs k (Err i) = (i ≤ length xs) × AllWithin (λ x. key x < k) xs 0 i × AllWithin (λ x. k < key x) xs i (length xs)

  pub sought_number : (xs : List X) (k : ℕ) (r : Result ℕ ℕ) → Sought nat_cmp key xs k r → SoughtNumber xs k r
  sought_number xs k (Ok i) s = (s.0, λ d. equal_is _ _ (s.1 d))
  sought_number xs k (Err i) s = (s.0, (λ j d low lt. less_is _ _ (s.1 j d low lt)), λ j d low lt. greater_is _ _ (s.2 j d low lt))

  abbrev pub leads_number : X → List X → Bool
  leads_number x [] = true
  leads_number x (y ∷ ys) = nat_lt (key x) (key y)

  abbrev pub ascending_number : List X → Bool
  ascending_number [] = true
  ascending_number (x ∷ xs) = leads_number x xs && ascending_number xs

  pub ascending_same : (xs : List X) → ascending nat_cmp key xs ≡ ascending_number xs
  ascending_same [] = refl
  ascending_same (x ∷ xs) = ap₂ (λ (a b : Bool). a && b) (first xs) (ascending_same xs)
    where
      first : (ys : List X) → leads nat_cmp key x ys ≡ leads_number x ys
      first [] = refl
      first (y ∷ ys) = lt_is (key x) (key y)

  abbrev pub seek_number : List X → ℕ → Result ℕ ℕ
  seek_number [] k = Err 0
  seek_number (x ∷ xs) k = cond (nat_lt (key x) k) (onward (seek_number xs k)) (cond (key x == k) (Ok 0) (Err 0))

  pub seek_same : (xs : List X) (k : ℕ) → seek nat_cmp key xs k ≡ seek_number xs k
  seek_same [] k = refl
  seek_same (x ∷ xs) k = ap (stands (nat_cmp (key x) k)) (seek_same xs k) ∙ told (nat_lt (key x) k) (key x == k) (seek_number xs k)
    where
      told : (lt eq : Bool) (r : Result ℕ ℕ) → stands (cond lt Less (cond eq Equal Greater)) r ≡ cond lt (onward r) (cond eq (Ok 0) (Err 0))
      told true eq r = refl
      told false true r = refl
      told false false r = refl
