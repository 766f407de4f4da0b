-- A history stays sound when every cluster goes back to its final place, and when a collect moves the oldest kept checkpoints up to places that no single fault undercuts.
use Rattle.std.proofs.Common.{◌≡◌, ℕ, suc, ◌<◌, ◌≤◌, ◌⊎◌, List, [], ◌∷◌, sym, refl, ap, ◌∙◌, subst, inl, inr, arith}
use Rattle.law.specs.declared.Message.{Message}
use Rattle.law.specs.Events.{Event, Lists, sent, got, ◌∈◌, Later, After, back, number, heard}
use Rattle.law.specs.Chains.{Chain, itself, later, delivered}
use Rattle.law.proofs.Lists.{Part, Timed, in_part, part-after, after-part, part-later, later-part, part_one, back_ways, back-part, in_back, back-number, stands_or_after, stands_not_after}
use Rattle.law.proofs.Facts.{Messages}
use Rattle.law.proofs.Closed.{Final, closed}
use Rattle.law.proofs.Exact.{after_less, chain-end}
use Rattle.law.proofs.Sound.{Sound, Safe, rows}

pub back-stays : (s : ℕ) (L : List Event) → number L < s → back s L ≡ L
back-stays s [] h = refl
back-stays s (x ∷ L) h = elim (back_ways s x L) [ inl w ↦ (let k = w.0 in absurd (omega arith)) | inr w ↦ w.1 ]

pub back_reaches : (s : ℕ) (L : List Event) → s ≤ number L → s ≤ number (back s L)
back_reaches s [] h = h
back_reaches s (x ∷ L) h =
    elim (back_ways s x L) [
      | inl w ↦ subst (λ (z : List Event). s ≤ number z) (sym w.1) (back_reaches s L w.0)
      | inr w ↦ subst (λ (z : List Event). s ≤ number z) (sym w.1) h
    ]

pub timed_back : (s : ℕ) (L : List Event) → Timed L → Timed (back s L)
timed_back s [] t = t
timed_back s (x ∷ L) t =
    elim (back_ways s x L) [ inl w ↦ subst Timed (sym w.1) (timed_back s L t.1) | inr w ↦ subst Timed (sym w.1) t ]

-- each cluster stays, or goes back to one of its kept checkpoints
abbrev pub KeptPlaces : Lists → (ℕ → ℕ) → (ℕ → ℕ) → Type 0
KeptPlaces H oldest P = (j : ℕ) → (P j ≡ suc (number (H j))) ⊎ ((oldest j ≤ P j) × (P j ≤ number (H j)))

module _ (H G : Lists) (oldest : ℕ → ℕ) (P : ℕ → ℕ) (sd : Sound H oldest) (fin : Final H heard P) (kp : KeptPlaces H oldest P) (is : (j : ℕ) → G j ≡ back (P j) (H j)) where
  part_was : (j : ℕ) (e : Event) (R : List Event) → Part e R (G j) → Part e R (H j)
  part_was j e R p = back-part (P j) (H j) e R (subst (λ (z : List Event). Part e R z) (is j) p)

  in_was : (j : ℕ) (e : Event) → e ∈ G j → e ∈ H j
  in_was j e h = in_back (P j) (H j) e (subst (λ (z : List Event). e ∈ z) (is j) h)

  timed_cut : (j : ℕ) → Timed (G j)
  timed_cut j = subst Timed (sym (is j)) (timed_back (P j) (H j) (sd.messages.timed j))

  -- a standing delivery has a standing send
  gets_cut : (k u : ℕ) (m : Message) → got u m ∈ G k → (m.to ≡ k) × (m.from ≡ k → ⊥) × ((t : ℕ) × (sent t m ∈ G m.from))
  gets_cut k u m h =
      let g = in_was k (got u m) h in
      let d = sd.messages.gets k u m g in
      let t = d.2.0 in
      let v : sent t m ∈ H m.from = d.2.1 in (
        d.0,
        d.1,
        elim (stands_or_after (P m.from) (H m.from) (sent t m) v) [
          | inl s ↦ (t, subst (λ (z : List Event). sent t m ∈ z) (sym (is m.from)) s)
          | inr a ↦ absurd (
              stands_not_after (P k) (H k) (got u m) (sd.messages.timed k) (subst (λ (z : List Event). got u m ∈ z) (is k) h)
              (closed H heard P sd.messages (rows H oldest sd) fin m.from (sent t m) k (got u m) (delivered k u (itself v) g) a))
        ],
      )

  pub messages_cut : Messages G
  messages_cut =
      record {
        timed = timed_cut;
        sends = λ i t m R p. sd.messages.sends i t m R (part_was i (sent t m) R p);
        gets = gets_cut;
        crosses = λ i k t u m a b. sd.messages.crosses i k t u m (in_was i (sent t m) a) (in_was k (got u m) b);
      }

  later_was : (j : ℕ) (a b : Event) → Later (G j) a b → Later (H j) a b
  later_was j a b l = let p = later-part (G j) a b l in part-later (H j) a b p.0 (part_was j b p.0 p.1) p.2

  chain_was : (f : ℕ) (x : Event) (j : ℕ) (e : Event) → Chain G f x j e → Chain H f x j e
  chain_was f x j e (itself h) = itself (in_was j x h)
  chain_was f x j e (later {a = a} c l) = later (chain_was f x j a c) (later_was j a e l)
  chain_was f x k e (delivered {j} {t} {m} k' u c g) = delivered k u (chain_was f x j _ c) (in_was k (got u m) g)

  -- a cluster that went back has no work to lose
  lost_was : (f : ℕ) (x : Event) → After (number (G f)) (G f) x → After (number (H f)) (H f) x
  lost_was f x a =
      elim (kp f) [
        | inl s ↦ (
            let e : G f ≡ H f = is f ∙ back-stays (P f) (H f) (omega arith) in
            subst (λ (z : List Event). After (number z) z x) e a)
        | inr s ↦ (
            let p = after-part (number (G f)) (G f) x a in
            let n = back-number (P f) (H f) x p.0 (subst (λ (z : List Event). Part x p.0 z) (is f) p.1) in
            let m = back_reaches (P f) (H f) s.1 in
            let e : number (G f) ≡ number (back (P f) (H f)) = ap number (is f) in
            let k = p.2 in
            absurd (omega arith))
      ]

  safe_cut : Safe G oldest
  safe_cut f j x e a c =
      let q = after-part (oldest j) (H j) e (sd.safe f j x e (lost_was f x a) (chain_was f x j e c)) in
      let p = in_part (G j) e (chain-end G f x j e c) in
      let r : q.0 ≡ p.0 = part_one (H j) e q.0 p.0 (sd.messages.timed j) q.1 (part_was j e p.0 p.1) in
      let n : number q.0 ≡ number p.0 = ap number r in
      let k = q.2 in
      part-after (oldest j) (G j) e p.0 p.1 (omega arith)

  stands_cut : (j : ℕ) → oldest j ≤ number (G j)
  stands_cut j =
      let o = sd.oldest_stands j in
      elim (kp j) [
        | inl s ↦ (
            let e : number (G j) ≡ number (H j) = ap number (is j ∙ back-stays (P j) (H j) (omega arith)) in
            omega arith)
        | inr s ↦ (
            let m = back_reaches (P j) (H j) s.1 in
            let e : number (G j) ≡ number (back (P j) (H j)) = ap number (is j) in
            let a = s.0 in
            omega arith)
      ]

  pub sound_cut : Sound G oldest
  sound_cut =
      record {
        messages = messages_cut;
        raises = λ k u m R p h. sd.raises k u m R (part_was k (got u m) R p) h;
        safe = safe_cut;
        oldest_one = sd.oldest_one;
        oldest_stands = stands_cut;
      }

-- the oldest kept checkpoints may move up to bounds that, for each single fault, are not above its final places
pub sound-collect : (H : Lists) (oldest bound : ℕ → ℕ) → Sound H oldest → ((j : ℕ) → 1 ≤ bound j) → ((j : ℕ) → bound j ≤ number (H j)) →
    ((f : ℕ) (x : Event) → After (number (H f)) (H f) x → (P : ℕ → ℕ) × Final H heard P × (P f ≤ number (H f)) × ((j : ℕ) → bound j ≤ P j)) → Sound H bound
sound-collect H oldest bound sd one stand places =
    record {
      messages = sd.messages;
      raises = sd.raises;
      safe = λ f j x e a c.
          (let p = places f x a in
          let P = p.0 in
          after_less (bound j) (P j) (H j) e (p.3 j)
          (closed H heard P sd.messages (rows H oldest sd) p.1 f x j e c (after_less (P f) (number (H f)) (H f) x p.2 a)));
      oldest_one = one;
      oldest_stands = stand;
    }
