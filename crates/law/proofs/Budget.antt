-- A restart takes few alerts: each cluster but the failed one is called back at most as often as it keeps checkpoints, and each call brings one alert for every other cluster.
use Rattle.std.proofs.Common.{◌≡◌, ℕ, zero, suc, ◌+◌, ◌-◌, ◌*◌, ◌<◌, ◌≤◌, Bool, true, false, List, [], ◌∷◌, ◌++◌, length, replicate, sym, refl, ap, ◌∙◌, subst, inl, inr, arith}
use Rattle.std.proofs.lemmas.Bool.{cases_eq, cases_lt}
use Rattle.law.specs.declared.Checkpoint.{Checkpoint}
use Rattle.law.specs.Law.{Among}
use Rattle.law.specs.Restarts.{trues, to_others}
use Rattle.law.specs.Events.{Event, Lists, After, number}
use Rattle.law.proofs.Lists.{Part, part_one, part-after, after-part, part-number}
use Rattle.law.proofs.Facts.{Messages}
use Rattle.law.proofs.Exact.{chain_time, timed_part}
use Rattle.law.proofs.Moves.{Move, part_order}
use Rattle.law.proofs.Kept.{Rising}
use Rattle.law.proofs.Waiting.{in_front}
use Rattle.law.proofs.Drains.{trues-set}
use Rattle.law.proofs.State.{sum_to}

-- consecutive numbers need as many checkpoints
pub length_from : (cs : List Checkpoint) (o top : ℕ) → Rising cs → ((k : Checkpoint) → Among k cs → o ≤ k.number) →
    ((p : ℕ) → o ≤ p → p ≤ top → (k : Checkpoint) × Among k cs × (k.number ≡ p)) → suc top ≤ o + length cs
length_from [] o top r low all =
    elim (cases_lt top o) [ inl h ↦ omega arith | inr h ↦ (let q = all o (omega arith) h in elim q.1 [ ]) ]
length_from (c ∷ cs) o top r low all =
    elim (cases_lt top o) [
      | inl h ↦ omega arith
      | inr h ↦ (
          let q = all o (omega arith) h in
          let n = q.2 in
          elim q.1 [
            | inl e ↦ (
                let m : q.0.number ≡ c.number = ap (λ (z : Checkpoint). z.number) e in
                let i = length_from cs (suc o) top r.1 (λ k a. let l = r.0 k a in omega arith) (rest e m n) in
                omega arith)
            | inr a ↦ (let l = r.0 q.0 a in let b = low c (inl refl) in absurd (omega arith))
          ])
    ]
  where
    rest : {k0 : Checkpoint} → k0 ≡ c → k0.number ≡ c.number → k0.number ≡ o → (p : ℕ) → suc o ≤ p → p ≤ top → (k : Checkpoint) × Among k cs × (k.number ≡ p)
    rest e m n p lo hi =
        let q = all p (omega arith) hi in
        let z = q.2 in
        elim q.1 [
          | inl f ↦ (let y : q.0.number ≡ c.number = ap (λ (x : Checkpoint). x.number) f in absurd (omega arith))
          | inr a ↦ (q.0, a, z)
        ]

pub sum_same : (n : ℕ) (f g : ℕ → ℕ) → ((k : ℕ) → k < n → f k ≡ g k) → sum_to n f ≡ sum_to n g
sum_same zero f g h = refl
sum_same (suc n) f g h = let a = sum_same n f g (λ k l. h k (omega arith)) in let b = h n (omega arith) in omega arith

-- one summand falls
pub sum_less : (n : ℕ) (f g : ℕ → ℕ) (j : ℕ) → j < n → ((k : ℕ) → k < n → (k ≡ j → ⊥) → g k ≡ f k) → g j < f j → sum_to n g < sum_to n f
sum_less zero f g j hj same less = absurd (omega arith)
sum_less (suc n) f g j hj same less =
    elim (cases_eq j n) [
      | inl e ↦ (
          let a = sum_same n g f (λ k l. same k (omega arith) (omega arith)) in
          let b : g n < f n = subst (λ (z : ℕ). g z < f z) e less in
          omega arith)
      | inr e ↦ (
          let a = sum_less n f g j (omega arith) (λ k l. same k (omega arith)) less in
          let b = same n (omega arith) (λ q. e (sym q)) in
          omega arith)
    ]

-- all but one summand of n are at most 16, and that one is 0
pub sum_most : (n : ℕ) (f : ℕ → ℕ) → ((k : ℕ) → k < n → f k ≤ 16) → sum_to n f ≤ 16 * n
sum_most zero f h = omega arith
sum_most (suc n) f h = let a = sum_most n f (λ k l. h k (omega arith)) in let b = h n (omega arith) in omega arith

pub sum_but_one : (n : ℕ) (f : ℕ → ℕ) (j : ℕ) → j < n → f j ≡ 0 → ((k : ℕ) → k < n → f k ≤ 16) → sum_to n f + 16 ≤ 16 * n
sum_but_one zero f j hj z h = absurd (omega arith)
sum_but_one (suc n) f j hj z h =
    elim (cases_eq j n) [
      | inl e ↦ (let a = sum_most n f (λ k l. h k (omega arith)) in let b : f j ≡ f n = ap f e in omega arith)
      | inr e ↦ (let a = sum_but_one n f j (omega arith) z (λ k l. h k (omega arith)) in let b = h n (omega arith) in omega arith)
    ]

trues_front : (n m : ℕ) → trues (replicate n true ++ replicate m false) ≡ n
trues_front zero zero = refl
trues_front zero (suc m) = trues_front zero m
trues_front (suc n) m = ap suc (trues_front n m)

-- a cluster alerts every other
pub trues_others : (n j : ℕ) → j < n → trues (to_others n j).to + 1 ≡ n
trues_others n j h =
    trues-set (replicate n true ++ replicate (8 - n) false) j (in_front n (8 - n) j h) ∙ trues_front n (8 - n)

-- the failed cluster is never called back: chains go forward in time
pub failed-stays : (H : Lists) (failed : ℕ → Bool) → Messages H → ((f g : ℕ) → failed f ≡ true → failed g ≡ true → f ≡ g) → (row : ℕ → List Event → ℕ) (i j s from q : ℕ) →
    Move H row failed i j s from q → failed j ≡ true → from ≤ number (H j) → ⊥
failed-stays H failed ms single row i j s from q mv fj le =
    let rc = mv.only mv.event (reaches_event) in
    let e : rc.cluster ≡ j = single rc.cluster j rc.lost.0 fj in
    let lost : After (number (H j)) (H j) rc.event = subst (λ (z : ℕ). After (number (H z)) (H z) rc.event) e rc.lost.1 in
    let p = after-part (number (H j)) (H j) rc.event lost in
    let t = chain_time H ms rc.cluster rc.event j mv.event rc.chain in
    let k = p.2 in
    let m = mv.is in
    let l = mv.lower in
    elim (part_order (H j) mv.event rc.event mv.before p.0 mv.part p.1) [
      | inl a ↦ same_place a p
      | inr a ↦ elim a [
        | inl b ↦ (let u = timed_part (H j) rc.event p.0 mv.event (ms.timed j) p.1 b in omega arith)
        | inr b ↦ (let u = part-number mv.before rc.event p.0 b in omega arith)
      ]
    ]
  where
    reaches_event : After q (H j) mv.event
    reaches_event = part-after q (H j) mv.event mv.before mv.part (let m = mv.is in omega arith)

    same_place : {x : Event} → x ≡ mv.event → (p : (R : List Event) × Part x R (H j) × (number (H j) ≤ number R)) → ⊥
    same_place {x} a p =
        let r : number p.0 ≡ number mv.before = ap number (part_one (H j) mv.event p.0 mv.before (ms.timed j) (subst (λ (z : Event). Part z p.0 (H j)) a p.1) mv.part) in
        let k = p.2 in
        let m = mv.is in
        let l = mv.lower in
        omega arith
