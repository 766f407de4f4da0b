-- What every history of a federation is, as far as lost work is concerned, and that its rows have the three facts of the chain argument.
use Rattle.std.proofs.Common.{◌≡◌, ℕ, ◌<◌, ◌≤◌, List, ◌∷◌, refl, ap, subst, inl, inr, arith}
use Rattle.law.specs.declared.Message.{Message}
use Rattle.law.specs.Events.{Event, Lists, saved, sent, got, ◌∈◌, After, number, heard}
use Rattle.law.specs.Chains.{Chain, itself, delivered}
use Rattle.law.proofs.Lists.{Part, in_part, part_in, part-after, eqb_ways}
use Rattle.law.proofs.Facts.{Messages, Rows, Fresh}

-- no chain from the work that any one cluster would lose reaches an event at or before an oldest kept checkpoint
abbrev pub Safe : Lists → (ℕ → ℕ) → Type 0
Safe H oldest = (f j : ℕ) (x e : Event) → After (number (H f)) (H f) x → Chain H f x j e → After (oldest j) (H j) e

pub record Sound (H : Lists) (oldest : ℕ → ℕ) : Type 0 where
  pub messages : Messages H
  -- a delivery that raises the entry comes directly after a checkpoint
  pub raises : (k u : ℕ) (m : Message) (R : List Event) → Part (got u m) R (H k) → heard m.from R < m.number → Fresh R
  pub safe : Safe H oldest
  pub oldest_one : (j : ℕ) → 1 ≤ oldest j
  pub oldest_stands : (j : ℕ) → oldest j ≤ number (H j)

heard_covers : (u : ℕ) (m : Message) (R : List Event) → m.number ≤ heard m.from (got u m ∷ R)
heard_covers u m R =
    elim (eqb_ways m.from m.from m.number 0) [ inl w ↦ (let e = w.1 in omega arith) | inr w ↦ absurd (w.0 refl) ]

module _ (H : Lists) (oldest : ℕ → ℕ) (sd : Sound H oldest) where
  -- an event that brings s or more from i is a delivery of a message from i
  source : (k i s : ℕ) (x : Event) (R : List Event) → Part x R (H k) → heard i R < s → s ≤ heard i (x ∷ R) → (y : Event) × After s (H i) y × Chain H i y k x
  source k i s (saved t ws) R p a b = absurd (omega arith)
  source k i s (sent t m) R p a b = absurd (omega arith)
  source k i s (got u m) R p a b =
      elim (eqb_ways m.from i m.number 0) [
        | inl w ↦ (
            let g = part_in (H k) (got u m) R p in
            let d = (sd.messages.gets k u m g).2 in
            let v : sent d.0 m ∈ H i = subst (λ (z : ℕ). sent d.0 m ∈ H z) w.0 d.1 in
            let q = in_part (H i) (sent d.0 m) v in
            let n = (sd.messages.sends i d.0 m q.0 q.1).1 in
            let e = w.1 in
            (sent d.0 m, part-after s (H i) (sent d.0 m) q.0 q.1 (omega arith), delivered k u (itself v) g))
        | inr w ↦ (let e = w.1 in absurd (omega arith))
      ]

  lifted : (k i : ℕ) (x : Event) (R : List Event) → Part x R (H k) → heard i R < heard i (x ∷ R) → Fresh R
  lifted k i (saved t ws) R p a = absurd (omega arith)
  lifted k i (sent t m) R p a = absurd (omega arith)
  lifted k i (got u m) R p a =
      elim (eqb_ways m.from i m.number 0) [
        | inl w ↦ (
            let e = w.1 in
            let z : heard m.from R ≡ heard i R = ap (λ (v : ℕ). heard v R) w.0 in
            sd.raises k u m R p (omega arith))
        | inr w ↦ (let e = w.1 in absurd (omega arith))
      ]

  pub rows : Rows H heard
  rows = record { none = λ i. refl; rises = λ i x R. omega arith; covers = heard_covers; source = source; fresh = lifted }
