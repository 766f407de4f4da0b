-- Final places are one: whatever the order of the alerts, two restarts of the same fault end at the same places.
use Rattle.std.proofs.Common.{◌≡◌, ℕ, zero, suc, ◌<◌, Bool, List, [], ◌∷◌, length, get_or, take, sym, refl, ap, ◌∙◌, subst, ap₂, inl, inr, arith}
use Rattle.std.proofs.lemmas.Bool.{cases_lt}
use Rattle.law.specs.declared.Restart.{Restart}
use Rattle.law.specs.Book.{Cluster}
use Rattle.law.specs.Restarts.{place}
use Rattle.law.specs.Events.{Event, Lists, After, number, heard}
use Rattle.law.proofs.Lists.{Part, after-part, part-after, part_one, after-number}
use Rattle.law.proofs.Closed.{Final}
use Rattle.law.proofs.Exact.{reached_after}
use Rattle.law.proofs.Sound.{Sound, rows}
use Rattle.law.proofs.Kept.{saves_one}
use Rattle.law.proofs.Going.{Going, Clusters, places_of, places_ways, kept_places}

-- below the newest checkpoint there is an event right after every number
next-event : (p : ℕ) (L : List Event) → p < number L → (e : Event) × (R : List Event) × Part e R L × (number R ≡ p)
next-event p [] h = absurd (omega arith)
next-event p (x ∷ L) h =
    elim (cases_lt p (number L)) [
      | inl l ↦ (let q = next-event p L l in (q.0, q.1, inr q.2, q.3))
      | inr l ↦ (let s = saves_one x in (x, L, inl (refl, refl), omega arith))
    ]

module _ (n : ℕ) (H : Lists) (oldest : ℕ → ℕ) (failed : ℕ → Bool) (cs : List Cluster) (sd : Sound H oldest) (cl : Clusters n cs H oldest) where
  -- one restart's places are not above another's
  not_above : (r q : Restart) → Going n H oldest failed r → Going n H oldest failed q → Final H heard (places_of n r H) → (j : ℕ) → j < n → places_of n q H j < places_of n r H j → ⊥
  not_above r q gr gq fr j hj lt =
      elim (kept_places n H oldest failed cs sd cl q gq j) [
        | inl s ↦ (elim (kept_places n H oldest failed cs sd cl r gr j) [ inl t ↦ omega arith | inr t ↦ (let a = t.1 in omega arith) ])
        | inr s ↦ elim (cases_lt (places_of n q H j) (number (H j))) [
          | inl l ↦ (
              let e = next-event (places_of n q H j) (H j) l in
              let ne = e.3 in
              let a = struck_too e.0 (part-after (places_of n q H j) (H j) e.0 e.1 e.2 (omega arith)) in
              let p = after-part (places_of n r H j) (H j) e.0 a in
              let same : number p.0 ≡ number e.1 = ap number (part_one (H j) e.0 p.0 e.1 (sd.messages.timed j) p.1 e.2) in
              let k = p.2 in
              omega arith)
          | inr l ↦ elim (places_ways n q H j) [
            | inl w ↦ elim (gq.struck j hj w.1) [
              | inl f ↦ (let a = gr.go_back j f in let b = w.2 in let c = s.1 in omega arith)
              | inr e ↦ (
                  let b = w.2 in
                  let a = after-number (places_of n r H j) (H j) e.0 (struck_too e.0 (subst (λ (z : ℕ). After z (H j) e.0) (sym b) e.1)) in
                  omega arith)
            ]
            | inr w ↦ (let a = w.1 in let c = s.1 in omega arith)
          ]
        ]
      ]
    where
      struck_too : (e : Event) → After (places_of n q H j) (H j) e → After (places_of n r H j) (H j) e
      struck_too e a = reached_after H heard failed (places_of n r H) sd.messages (rows H oldest sd) fr gr.go_back j e (gq.only j e a)

  pub same_places : (r q : Restart) → Going n H oldest failed r → Going n H oldest failed q → Final H heard (places_of n r H) → Final H heard (places_of n q H) → (j : ℕ) → j < n → place r j ≡ place q j
  same_places r q gr gq fr fq j hj =
      let a = not_above r q gr gq fr j hj in
      let b = not_above q r gq gr fq j hj in
      let e : places_of n r H j ≡ places_of n q H j = omega arith in
      let s = cl.small j in
      elim (places_ways n r H j) [
        | inl w ↦ elim (places_ways n q H j) [
          | inl v ↦ sym w.2 ∙ e ∙ v.2
          | inr v ↦ (let x = w.2 in let y = v.1 in elim (gr.kept j hj) [ inl z ↦ absurd (w.1 z) | inr z ↦ (let u = z.1 in absurd (omega arith)) ])
        ]
        | inr w ↦ elim (places_ways n q H j) [
          | inl v ↦ (let x = v.2 in let y = w.1 in elim (gq.kept j hj) [ inl z ↦ absurd (v.1 z) | inr z ↦ (let u = z.1 in absurd (omega arith)) ])
          | inr v ↦ w.0 hj ∙ sym (v.0 hj)
        ]
      ]

pub take_same : (n : ℕ) (xs ys : List ℕ) → length xs ≡ length ys → ((j : ℕ) → j < n → get_or xs j 0 ≡ get_or ys j 0) → take n xs ≡ take n ys
take_same zero xs ys l h = refl
take_same (suc n) [] [] l h = refl
take_same (suc n) [] (y ∷ ys) l h = absurd (omega arith)
take_same (suc n) (x ∷ xs) [] l h = absurd (omega arith)
take_same (suc n) (x ∷ xs) (y ∷ ys) l h = ap₂ (λ (a : ℕ) (as' : List ℕ). a ∷ as') (h 0 (omega arith)) (take_same n xs ys (omega arith) (λ j k. h (suc j) (omega arith)))
