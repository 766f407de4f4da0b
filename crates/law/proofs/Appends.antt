-- A history stays sound when one event is added: chains lead to the newest event, but none leads on from it.
use Rattle.std.proofs.Common.{◌≡◌, ℕ, ◌+◌, ◌<◌, ◌≤◌, ◌⊎◌, List, ◌∷◌, sym, refl, ap, ◌∙◌, subst, inl, inr, arith}
use Rattle.std.proofs.lemmas.Bool.{cases_eq}
use Rattle.law.specs.declared.Message.{Message}
use Rattle.law.specs.Events.{Event, Lists, sent, got, ◌∈◌, After, number, saves, heard}
use Rattle.law.specs.Chains.{Chain, itself, later, delivered}
use Rattle.law.proofs.Lists.{Part, Timed, time, in_part, part_in, part-after, after-part, part-later, later-part, after_in}
use Rattle.law.proofs.Facts.{Messages, Fresh}
use Rattle.law.proofs.Exact.{after_less, timed_part, chain_time, chain-end}
use Rattle.law.proofs.Sound.{Sound, Safe}

-- cluster c has one event more
pub record Grows (H G : Lists) (c : ℕ) (x : Event) : Type 0 where
  pub here : G c ≡ x ∷ H c
  pub there : (j : ℕ) → (j ≡ c → ⊥) → G j ≡ H j
  pub newest : (j : ℕ) (e : Event) → e ∈ H j → time e < time x

-- what a new event must be
pub record Fits (H : Lists) (c : ℕ) (x : Event) : Type 0 where
  pub sends : (t : ℕ) (m : Message) → x ≡ sent t m → (m.from ≡ c) × (m.number ≡ number (H c)) × ((k u : ℕ) → got u m ∈ H k → ⊥)
  pub gets : (u : ℕ) (m : Message) → x ≡ got u m → (m.to ≡ c) × (m.from ≡ c → ⊥) × ((t : ℕ) × (sent t m ∈ H m.from))
  pub raises : (u : ℕ) (m : Message) → x ≡ got u m → heard m.from (H c) < m.number → Fresh (H c)

module _ (H G : Lists) (c : ℕ) (x : Event) (gr : Grows H G c x) where
  pub part_split : (j : ℕ) (e : Event) (R : List Event) → Part e R (G j) → ((j ≡ c) × (e ≡ x) × (R ≡ H c)) ⊎ Part e R (H j)
  part_split j e R p =
      elim (cases_eq j c) [
        | inl q ↦ elim (subst (λ (z : List Event). Part e R z) (ap G q ∙ gr.here) p) [
          | inl a ↦ inl (q, a.0, a.1)
          | inr a ↦ inr (subst (λ (z : ℕ). Part e R (H z)) (sym q) a)
        ]
        | inr q ↦ inr (subst (λ (z : List Event). Part e R z) (gr.there j q) p)
      ]

  pub part_more : (j : ℕ) (e : Event) (R : List Event) → Part e R (H j) → Part e R (G j)
  part_more j e R p =
      elim (cases_eq j c) [
        | inl q ↦ subst (λ (z : List Event). Part e R z) (sym (ap G q ∙ gr.here)) (inr (subst (λ (z : ℕ). Part e R (H z)) q p))
        | inr q ↦ subst (λ (z : List Event). Part e R z) (sym (gr.there j q)) p
      ]

  pub part_new : Part x (H c) (G c)
  part_new = subst (λ (z : List Event). Part x (H c) z) (sym gr.here) (inl (refl, refl))

  pub in_split : (j : ℕ) (e : Event) → e ∈ G j → ((j ≡ c) × (e ≡ x)) ⊎ (e ∈ H j)
  in_split j e h =
      let p = in_part (G j) e h in
      elim (part_split j e p.0 p.1) [ inl a ↦ inl (a.0, a.1) | inr a ↦ inr (part_in (H j) e p.0 a) ]

  pub in_more : (j : ℕ) (e : Event) → e ∈ H j → e ∈ G j
  in_more j e h = let p = in_part (H j) e h in part_in (G j) e p.0 (part_more j e p.0 p.1)

  pub in_new : x ∈ G c
  in_new = part_in (G c) x (H c) part_new

  pub after_more : (s j : ℕ) (e : Event) → After s (H j) e → After s (G j) e
  after_more s j e a = let p = after-part s (H j) e a in part-after s (G j) e p.0 (part_more j e p.0 p.1) p.2

  pub number_more : (j : ℕ) → number (H j) ≤ number (G j)
  number_more j =
      elim (cases_eq j c) [
        | inl q ↦ (
            let a : number (G j) ≡ saves x + number (H c) = ap number (ap G q ∙ gr.here) in
            let b : number (H j) ≡ number (H c) = ap number (ap H q) in
            omega arith)
        | inr q ↦ (let a : number (G j) ≡ number (H j) = ap number (gr.there j q) in omega arith)
      ]

  module _ (oldest : ℕ → ℕ) (sd : Sound H oldest) (fits : Fits H c x) where
    timed_more : (j : ℕ) → Timed (G j)
    timed_more j =
        elim (cases_eq j c) [
          | inl q ↦ subst Timed (sym (ap G q ∙ gr.here)) (gr.newest c, sd.messages.timed c)
          | inr q ↦ subst Timed (sym (gr.there j q)) (sd.messages.timed j)
        ]

    sends_more : (i t : ℕ) (m : Message) (R : List Event) → Part (sent t m) R (G i) → (m.from ≡ i) × (m.number ≡ number R)
    sends_more i t m R p =
        elim (part_split i (sent t m) R p) [
          | inl a ↦ (let f = fits.sends t m (sym a.1) in (f.0 ∙ sym a.0, f.1 ∙ sym (ap number a.2)))
          | inr a ↦ sd.messages.sends i t m R a
        ]

    gets_more : (k u : ℕ) (m : Message) → got u m ∈ G k → (m.to ≡ k) × (m.from ≡ k → ⊥) × ((t : ℕ) × (sent t m ∈ G m.from))
    gets_more k u m h =
        elim (in_split k (got u m) h) [
          | inl a ↦ (
              let f = fits.gets u m (sym a.1) in
              (f.0 ∙ sym a.0, (λ e. f.1 (e ∙ a.0)), (f.2.0, in_more m.from (sent f.2.0 m) f.2.1)))
          | inr a ↦ (
              let f = sd.messages.gets k u m a in
              (f.0, f.1, (f.2.0, in_more m.from (sent f.2.0 m) f.2.1)))
        ]

    crosses_more : (i k t u : ℕ) (m : Message) → sent t m ∈ G i → got u m ∈ G k → t < u
    crosses_more i k t u m h g =
        elim (in_split i (sent t m) h) [
          | inl a ↦ elim (in_split k (got u m) g) [
            | inl b ↦ (let e1 = a.1 in let e2 = b.1 in let z : ◌≡◌ {A = ℕ} 0 1 = cc in absurd (omega arith))
            | inr b ↦ absurd ((fits.sends t m (sym a.1)).2 k u b)
          ]
          | inr a ↦ elim (in_split k (got u m) g) [
            | inl b ↦ (let n = gr.newest i (sent t m) a in let e : u ≡ time x = ap time b.1 in omega arith)
            | inr b ↦ sd.messages.crosses i k t u m a b
          ]
        ]

    messages_more : Messages G
    messages_more = record { timed = timed_more; sends = sends_more; gets = gets_more; crosses = crosses_more }

    -- a chain that does not begin with the new event leads to it, or was there before
    chain_old : (f : ℕ) (y : Event) → y ∈ H f → (j : ℕ) (e : Event) → Chain G f y j e → ((j ≡ c) × (e ≡ x)) ⊎ Chain H f y j e
    chain_old f y h j e (itself g) = inr (itself h)
    chain_old f y h j e (later {a = a} ch l) =
        let p = later-part (G j) a e l in
        let t = timed_part (G j) e p.0 a (timed_more j) p.1 p.2 in
        elim (chain_old f y h j a ch) [
          | inl q ↦ (
              let n : time a ≡ time x = ap time q.1 in
              elim (in_split j e (part_in (G j) e p.0 p.1)) [
                | inl r ↦ (let k : time e ≡ time x = ap time r.1 in absurd (omega arith))
                | inr r ↦ (let k = gr.newest j e r in absurd (omega arith))
              ])
          | inr q ↦ elim (part_split j e p.0 p.1) [
            | inl r ↦ inl (r.0, r.1)
            | inr r ↦ inr (later q (part-later (H j) a e p.0 r p.2))
          ]
        ]
    chain_old f y h k e (delivered {j} {t} {m} k' u ch g) =
        elim (in_split k (got u m) g) [
          | inl r ↦ inl r
          | inr r ↦ elim (chain_old f y h j _ ch) [
            | inl q ↦ (
                let a = crosses_more j k t u m (chain-end G f y j _ ch) g in
                let b = gr.newest k (got u m) r in
                let d : t ≡ time x = ap time q.1 in
                absurd (omega arith))
            | inr q ↦ inr (delivered k u q r)
          ]
        ]

    new_after : (j : ℕ) (e : Event) → j ≡ c → e ≡ x → After (oldest j) (G j) e
    new_after j e p q =
        subst (λ (z : ℕ). After (oldest z) (G z) e) (sym p)
        (subst (λ (z : Event). After (oldest c) (G c) z) (sym q) (part-after (oldest c) (G c) x (H c) part_new (sd.oldest_stands c)))

    safe_old : (f j : ℕ) (y e : Event) → After (number (G f)) (H f) y → Chain G f y j e → After (oldest j) (G j) e
    safe_old f j y e a ch =
        elim (chain_old f y (after_in (number (G f)) (H f) y a) j e ch) [
          | inl q ↦ new_after j e q.0 q.1
          | inr q ↦ after_more (oldest j) j e (sd.safe f j y e (after_less (number (H f)) (number (G f)) (H f) y (number_more f) a) q)
        ]

    safe_new : (f j : ℕ) (y e : Event) → y ≡ x → Chain G f y j e → After (oldest j) (G j) e
    safe_new f j y e q ch =
        let a = chain_time G messages_more f y j e ch in
        let b : time y ≡ time x = ap time q in
        elim (in_split j e (chain-end G f y j e ch)) [
          | inl r ↦ new_after j e r.0 r.1
          | inr r ↦ (let k = gr.newest j e r in absurd (omega arith))
        ]

    safe_more : Safe G oldest
    safe_more f j y e a ch =
        let p = after-part (number (G f)) (G f) y a in
        elim (part_split f y p.0 p.1) [
          | inl q ↦ safe_new f j y e q.1 ch
          | inr q ↦ safe_old f j y e (part-after (number (G f)) (H f) y p.0 q p.2) ch
        ]

    pub sound_more : Sound G oldest
    sound_more =
        record {
          messages = messages_more;
          raises = λ k u m R p h. elim (part_split k (got u m) R p) [
            | inl a ↦ subst Fresh (sym a.2) (fits.raises u m (sym a.1) (subst (λ (z : List Event). heard m.from z < m.number) a.2 h))
            | inr a ↦ sd.raises k u m R a h
          ];
          safe = safe_more;
          oldest_one = sd.oldest_one;
          oldest_stands = λ j. (let a = sd.oldest_stands j in let b = number_more j in omega arith);
        }
