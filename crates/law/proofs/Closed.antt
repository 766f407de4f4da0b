-- Final places are closed under chains: whatever a struck event reaches is struck.
use Rattle.std.proofs.Common.{◌≡◌, ℕ, ◌<◌, ◌≤◌, List, [], ◌∷◌, ap, subst, inl, inr, arith}
use Rattle.law.specs.declared.Message.{Message}
use Rattle.law.specs.Events.{Event, Lists, sent, got, ◌∈◌, After, back}
use Rattle.law.specs.Chains.{Chain, itself, later, delivered}
use Rattle.law.proofs.Lists.{after-part, stands_or_after, later-after}
use Rattle.law.proofs.Facts.{Messages, Rows}

-- no cluster's entry for another, at its place, is at or above the place of that other
abbrev pub Final : Lists → (ℕ → List Event → ℕ) → (ℕ → ℕ) → Type 0
Final H row P = (i k : ℕ) → (i ≡ k → ⊥) → row i (back (P k) (H k)) < P i

-- a delivery in a list is covered by the list's entry
covered : (H : Lists) (row : ℕ → List Event → ℕ) → Rows H row → (L : List Event) (u : ℕ) (m : Message) → got u m ∈ L → m.number ≤ row m.from L
covered H row rs [] u m h = elim h [ ]
covered H row rs (x ∷ L) u m h =
    elim h [
      | inl e ↦ subst (λ (z : Event). m.number ≤ row m.from (z ∷ L)) e (rs.covers u m L)
      | inr k ↦ (let a = covered H row rs L u m k in let b = rs.rises m.from x L in omega arith)
    ]

pub closed : (H : Lists) (row : ℕ → List Event → ℕ) (P : ℕ → ℕ) → Messages H → Rows H row → Final H row P →
    (i : ℕ) (x : Event) (j : ℕ) (e : Event) → Chain H i x j e → After (P i) (H i) x → After (P j) (H j) e
closed H row P ms rs fin i x j e (itself h) a = a
closed H row P ms rs fin i x j e (later {a = y} c l) a =
    later-after (P j) (H j) y e (ms.timed j) l (closed H row P ms rs fin i x j y c a)
closed H row P ms rs fin i x k e (delivered {j} {t} {m} k' u c g) a =
    let b = closed H row P ms rs fin i x j (sent t m) c a in
    let p = after-part (P j) (H j) (sent t m) b in
    let q = ms.sends j t m p.0 p.1 in
    let d = ms.gets k u m g in
    elim (stands_or_after (P k) (H k) (got u m) g) [
      | inl s ↦ (
          let v = covered H row rs (back (P k) (H k)) u m s in
          let w = fin m.from k d.1 in
          let z : P m.from ≡ P j = ap P q.0 in
          let n = q.1 in
          let r = p.2 in
          absurd (omega arith))
      | inr s ↦ s
    ]
