-- Places that are final, and strike only what is reached, strike exactly what lost work reaches.
use Rattle.std.proofs.Common.{◌≡◌, ℕ, ◌<◌, ◌≤◌, Bool, true, ◌↔◌, List, [], ◌∷◌, ap, subst, inl, inr, arith}
use Rattle.law.specs.Events.{Event, Lists, ◌∈◌, After, back, number}
use Rattle.law.specs.Chains.{Chain, itself, later, delivered, Reached}
use Rattle.law.proofs.Lists.{Part, Timed, time, stands_or_after, stands_not_after, later-part, part_in}
use Rattle.law.proofs.Facts.{Messages, Rows}
use Rattle.law.proofs.Closed.{Final, closed}
use Rattle.law.proofs.Moves.{OnlyReached}

pub after_less : (s r : ℕ) (L : List Event) (e : Event) → s ≤ r → After r L e → After s L e
after_less s r [] e h a = elim a [ ]
after_less s r (x ∷ L) e h a =
    elim a [ inl p ↦ (let q = p.1 in inl (p.0, omega arith)) | inr p ↦ inr (after_less s r L e h p) ]

-- the failed clusters go back at least to their newest checkpoints
abbrev pub FailedGoBack : Lists → (ℕ → Bool) → (ℕ → ℕ) → Type 0
FailedGoBack H failed P = (f : ℕ) → failed f ≡ true → P f ≤ number (H f)

pub reached_after : (H : Lists) (row : ℕ → List Event → ℕ) (failed : ℕ → Bool) (P : ℕ → ℕ) → Messages H → Rows H row → Final H row P → FailedGoBack H failed P →
    (j : ℕ) (e : Event) → Reached H failed j e → After (P j) (H j) e
reached_after H row failed P ms rs fin go j e r =
    closed H row P ms rs fin r.cluster r.event j e r.chain
    (after_less (P r.cluster) (number (H r.cluster)) (H r.cluster) r.event (go r.cluster r.lost.0) r.lost.1)

pub exact : (H : Lists) (row : ℕ → List Event → ℕ) (failed : ℕ → Bool) (P : ℕ → ℕ) → Messages H → Rows H row → Final H row P → FailedGoBack H failed P → OnlyReached H failed P →
    (j : ℕ) (e : Event) → e ∈ H j → ((e ∈ back (P j) (H j) → ⊥) ↔ Reached H failed j e)
exact H row failed P ms rs fin go only j e h = (
  (λ gone. elim (stands_or_after (P j) (H j) e h) [ inl s ↦ absurd (gone s) | inr a ↦ only j e a ]),
  (λ r s. stands_not_after (P j) (H j) e (ms.timed j) s (reached_after H row failed P ms rs fin go j e r)),
)

pub timed_part : (L : List Event) (e : Event) (S : List Event) (b : Event) → Timed L → Part e S L → b ∈ S → time b < time e
timed_part [] e S b t p h = elim p [ ]
timed_part (y ∷ L) e S b t (inl p) h =
    let k = t.0 b (subst (λ (z : List Event). b ∈ z) p.1 h) in
    let n : time e ≡ time y = ap time p.0 in
    omega arith
timed_part (y ∷ L) e S b t (inr p) h = timed_part L e S b t.1 p h

pub chain-end : (H : Lists) (i : ℕ) (x : Event) (j : ℕ) (e : Event) → Chain H i x j e → e ∈ H j
chain-end H i x j e (itself h) = h
chain-end H i x j e (later {a = b} c l) = let p = later-part (H j) b e l in part_in (H j) e p.0 p.1
chain-end H i x k e (delivered k' u c g) = g

-- chains go forward in time
pub chain_time : (H : Lists) → Messages H → (i : ℕ) (x : Event) (j : ℕ) (e : Event) → Chain H i x j e → time x ≤ time e
chain_time H ms i x j e (itself h) = omega arith
chain_time H ms i x j e (later {a = b} c l) =
    let a = chain_time H ms i x j b c in
    let p = later-part (H j) b e l in
    let t = timed_part (H j) e p.0 b (ms.timed j) p.1 p.2 in
    omega arith
chain_time H ms i x k e (delivered {j} {t} {m} k' u c g) =
    let a = chain_time H ms i x j _ c in
    let b = ms.crosses j k t u m (chain-end H i x j _ c) g in
    omega arith
