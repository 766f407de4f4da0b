-- Which alerts wait: taking one leaves the others, and a cluster called back alerts every other and no other.
use Rattle.std.proofs.Common.{◌≡◌, ℕ, zero, suc, ◌-◌, ◌<◌, ◌≤◌, Bool, true, false, List, [], ◌∷◌, ◌++◌, length, get_or, set, replicate, sym, refl, ap, ◌∙◌, inl, inr, arith, length-append, length-set, get_or-set_other, get_or-set_same}
use lib.ListN.{length-replicate, get_or-replicate, get_or-append}
use Rattle.std.proofs.lemmas.Bool.{cases_lt, cases_eq, true≢false}
use Rattle.law.specs.declared.Alerts.{Alerts}
use Rattle.law.specs.declared.Restart.{Restart}
use Rattle.law.specs.Restarts.{waits, taken, to_others, to_nobody}

-- a set to false reads false, in range or not
pub set-false : (l : List Bool) (i : ℕ) → get_or (set l i false) i false ≡ false
set-false [] i = refl
set-false (x ∷ l) zero = refl
set-false (x ∷ l) (suc i) = set-false l i

pub replicate-false : (m k : ℕ) → get_or (replicate m false) k false ≡ false
replicate-false zero k = refl
replicate-false (suc m) zero = refl
replicate-false (suc m) (suc k) = replicate-false m k

pub past_front : (n m k : ℕ) → n ≤ k → get_or (replicate n true ++ replicate m false) k false ≡ false
past_front zero m k h = replicate-false m k
past_front (suc n) m zero h = absurd (omega arith)
past_front (suc n) m (suc k) h = past_front n m k (omega arith)

pub in_front : (n m k : ℕ) → k < n → get_or (replicate n true ++ replicate m false) k false ≡ true
in_front n m k h =
    let a = length-replicate n true in
    get_or-append (replicate n true) (replicate m false) false k (omega arith) ∙ get_or-replicate n k true false h

pub others_true : (n j k : ℕ) → k < n → (k ≡ j → ⊥) → get_or (to_others n j).to k false ≡ true
others_true n j k h ne = get_or-set_other (replicate n true ++ replicate (8 - n) false) j k false false ne ∙ in_front n (8 - n) k h

pub others_only : (n j k : ℕ) → get_or (to_others n j).to k false ≡ true → (k < n) × (k ≡ j → ⊥)
others_only n j k h =
    elim (cases_eq k j) [
      | inl e ↦ absurd (true≢false (sym h ∙ ap (λ (z : ℕ). get_or (to_others n j).to z false) e ∙ set-false (replicate n true ++ replicate (8 - n) false) j))
      | inr e ↦ elim (cases_lt k n) [
        | inl a ↦ (a, e)
        | inr a ↦ absurd (true≢false (sym h ∙ get_or-set_other (replicate n true ++ replicate (8 - n) false) j k false false e ∙ past_front n (8 - n) k a))
      ]
    ]

pub others_long : (n j : ℕ) → n ≤ 8 → length (to_others n j).to ≡ 8
others_long n j h =
    length-set (replicate n true ++ replicate (8 - n) false) j false ∙ length-append (replicate n true) (replicate (8 - n) false)
    ∙ (let a = length-replicate n true in let b = length-replicate (8 - n) false in omega arith)

module _ (r : Restart) (i j : ℕ) (hi : i < length r.waiting) where
  abbrev now_to : Alerts
  now_to = record { to = set (get_or r.waiting i to_nobody).to j false }

  pub taken_here : get_or (taken r i j) i to_nobody ≡ now_to
  taken_here = get_or-set_same r.waiting i now_to to_nobody hi

  pub taken_there : (a : ℕ) → (a ≡ i → ⊥) → get_or (taken r i j) a to_nobody ≡ get_or r.waiting a to_nobody
  taken_there a ne = get_or-set_other r.waiting i a now_to to_nobody ne

  pub taken_other : (a k : ℕ) → (a ≡ i → k ≡ j → ⊥) → get_or (get_or (taken r i j) a to_nobody).to k false ≡ waits r a k
  taken_other a k ne =
      elim (cases_eq a i) [
        | inl e ↦ ap (λ (z : ℕ). get_or (get_or (taken r i j) z to_nobody).to k false) e
            ∙ ap (λ (z : Alerts). get_or z.to k false) taken_here
            ∙ get_or-set_other (get_or r.waiting i to_nobody).to j k false false (ne e)
            ∙ ap (λ (z : ℕ). waits r z k) (sym e)
        | inr e ↦ ap (λ (z : Alerts). get_or z.to k false) (taken_there a e)
      ]

  pub taken_same : get_or (get_or (taken r i j) i to_nobody).to j false ≡ false
  taken_same = ap (λ (z : Alerts). get_or z.to j false) taken_here ∙ set-false (get_or r.waiting i to_nobody).to j

  -- what still waits waited before
  pub taken_was : (a k : ℕ) → get_or (get_or (taken r i j) a to_nobody).to k false ≡ true → waits r a k ≡ true
  taken_was a k h =
      elim (cases_eq a i) [
        | inl e ↦ elim (cases_eq k j) [
          | inl f ↦ absurd (true≢false (sym h ∙ ap (λ (z : ℕ). get_or (get_or (taken r i j) z to_nobody).to k false) e ∙ ap (λ (z : ℕ). get_or (get_or (taken r i j) i to_nobody).to z false) f ∙ taken_same))
          | inr f ↦ sym (taken_other a k (λ _. f)) ∙ h
        ]
        | inr e ↦ sym (taken_other a k (λ x _. e x)) ∙ h
      ]

  pub taken_long : (a : ℕ) → length (get_or r.waiting a to_nobody).to ≡ 8 → length (get_or (taken r i j) a to_nobody).to ≡ 8
  taken_long a h =
      elim (cases_eq a i) [
        | inl e ↦ ap (λ (z : ℕ). length (get_or (taken r i j) z to_nobody).to) e
            ∙ ap (λ (z : Alerts). length z.to) taken_here
            ∙ length-set (get_or r.waiting i to_nobody).to j false
            ∙ ap (λ (z : ℕ). length (get_or r.waiting z to_nobody).to) (sym e) ∙ h
        | inr e ↦ ap (λ (z : Alerts). length z.to) (taken_there a e) ∙ h
      ]
