-- The lower of two lists of places is told place by place.
use Rattle.std.proofs.Common.{◌≡◌, ℕ, suc, ◌<◌, min, List, [], ◌∷◌, length, get_or, refl, ap₂, arith}
use Rattle.law.specs.Trials.{lower}

pub lower_is : (zs xs ys : List ℕ) → length xs ≡ length zs → length ys ≡ length zs → ((i : ℕ) → i < length zs → get_or zs i 0 ≡ min (get_or xs i 0) (get_or ys i 0)) → zs ≡ lower xs ys
lower_is [] [] ys p q h = refl
lower_is [] (x ∷ xs) ys p q h = absurd (omega arith)
lower_is (z ∷ zs) [] ys p q h = absurd (omega arith)
lower_is (z ∷ zs) (x ∷ xs) [] p q h = absurd (omega arith)
lower_is (z ∷ zs) (x ∷ xs) (y ∷ ys) p q h =
    ap₂ (λ (a : ℕ) (l : List ℕ). a ∷ l) (h 0 (omega arith)) (lower_is zs xs ys (omega arith) (omega arith) (λ i k. h (suc i) (omega arith)))
