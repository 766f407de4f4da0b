-- Finish ends: a move lowers a place, and every other alert is one less that waits; when none waits, the places are final.
use Rattle.std.proofs.Common.{◌≡◌, ℕ, zero, suc, ◌+◌, ◌<◌, ◌≤◌, Bool, true, false, ◌⊎◌, List, [], ◌∷◌, length, get_or, set, Some, None, Option, sym, refl, ap, ◌∙◌, subst, ap₂, inl, inr, arith, length-set}
use Rattle.std.proofs.lemmas.Bool.{true≢false}
use Rattle.law.specs.declared.Alerts.{Alerts}
use Rattle.law.specs.declared.Restart.{Restart}
use Rattle.law.specs.Book.{Cluster}
use Rattle.law.specs.Restarts.{place, waits, called_to, carry, carried, taken, to_others, to_nobody, first_true, first_waiting, pair_with, onward, drain, drained, total, trues, alerts_in, enough}
use Rattle.law.specs.Events.{Lists, number, heard}
use Rattle.law.proofs.Closed.{Final}
use Rattle.law.proofs.Moves.{Move}
use Rattle.law.proofs.Sound.{Sound}
use Rattle.law.proofs.Waiting.{others_long}
use Rattle.law.proofs.Going.{places_of, places_ways, Going, Clusters, called_ways, carry_going}

pub first_true_ways : (bs : List Bool) (k : ℕ) → ((first_true k bs ≡ None) × ((d : ℕ) → get_or bs d false ≡ false)) ⊎ ((d : ℕ) × (first_true k bs ≡ Some (k + d)) × (get_or bs d false ≡ true))
first_true_ways [] k = inl (refl, λ d. refl)
first_true_ways (true ∷ bs) k = inr (0, ap (λ (z : ℕ). Some z) (omega arith), refl)
first_true_ways (false ∷ bs) k =
    elim (first_true_ways bs (suc k)) [
      | inl w ↦ inl (w.0, all_false w.1)
      | inr w ↦ inr (suc w.0, w.1 ∙ ap (λ (z : ℕ). Some z) (omega arith), w.2)
    ]
  where
    all_false : ((d : ℕ) → get_or bs d false ≡ false) → (d : ℕ) → get_or (false ∷ bs) d false ≡ false
    all_false h zero = refl
    all_false h (suc d) = h d

-- no alert waits, or the first that does is found
pub first_waiting_ways : (ws : List Alerts) (k : ℕ) →
    ((first_waiting k ws ≡ None) × ((i j : ℕ) → get_or (get_or ws i to_nobody).to j false ≡ false)) ⊎ ((i : ℕ) × (j : ℕ) × (first_waiting k ws ≡ Some (k + i, j)) × (get_or (get_or ws i to_nobody).to j false ≡ true))
first_waiting_ways [] k = inl (refl, nobody-waits)
  where
    nobody-waits : (i j : ℕ) → get_or (get_or {A = Alerts} [] i to_nobody).to j false ≡ false
    nobody-waits i j = elim (first_true_ways to_nobody.to 0) [ inl w ↦ w.1 j | inr w ↦ (let e = w.1 in let z : ◌≡◌ {A = ℕ} 0 1 = cc in absurd (omega arith)) ]
first_waiting_ways (a ∷ ws) k =
    elim (first_true_ways a.to 0) [
      | inl w ↦ elim (first_waiting_ways ws (suc k)) [
        | inl v ↦ inl (ap (λ (z : Option ℕ). pair_with k z (first_waiting (suc k) ws)) w.0 ∙ v.0, none_waits w.1 v.1)
        | inr v ↦ inr (suc v.0, v.1, ap (λ (z : Option ℕ). pair_with k z (first_waiting (suc k) ws)) w.0 ∙ v.2 ∙ ap (λ (z : ℕ). Some (z, v.1)) (omega arith), v.3)
      ]
      | inr w ↦ inr (0, w.0, ap (λ (z : Option ℕ). pair_with k z (first_waiting (suc k) ws)) w.1 ∙ ap₂ (λ (y z : ℕ). Some (y, z)) (omega arith) (omega arith), w.2)
    ]
  where
    none_waits : ((d : ℕ) → get_or a.to d false ≡ false) → ((i j : ℕ) → get_or (get_or ws i to_nobody).to j false ≡ false) → (i j : ℕ) → get_or (get_or (a ∷ ws) i to_nobody).to j false ≡ false
    none_waits f g zero j = f j
    none_waits f g (suc i) j = g i j

pub total-set : (xs : List ℕ) (j q : ℕ) → j < length xs → total (set xs j q) + get_or xs j 0 ≡ total xs + q
total-set [] j q h = absurd (omega arith)
total-set (x ∷ xs) zero q h = omega arith
total-set (x ∷ xs) (suc j) q h = let a = total-set xs j q (omega arith) in omega arith

pub alerts-set : (ws : List Alerts) (i : ℕ) (a : Alerts) → i < length ws → alerts_in (set ws i a) + trues (get_or ws i to_nobody).to ≡ alerts_in ws + trues a.to
alerts-set [] i a h = absurd (omega arith)
alerts-set (x ∷ ws) zero a h = omega arith
alerts-set (x ∷ ws) (suc i) a h = let b = alerts-set ws i a (omega arith) in omega arith

pub trues-set : (l : List Bool) (j : ℕ) → get_or l j false ≡ true → trues (set l j false) + 1 ≡ trues l
trues-set [] j h = absurd (true≢false (sym h))
trues-set (true ∷ l) zero h = omega arith
trues-set (false ∷ l) zero h = absurd (true≢false (sym h))
trues-set (true ∷ l) (suc j) h = let a = trues-set l j h in omega arith
trues-set (false ∷ l) (suc j) h = let a = trues-set l j h in omega arith

pub trues-length : (l : List Bool) → trues l ≤ length l
trues-length [] = omega arith
trues-length (true ∷ l) = let a = trues-length l in omega arith
trues-length (false ∷ l) = let a = trues-length l in omega arith

-- no alert waits
abbrev pub Done : Restart → Type 0
Done r = (i j : ℕ) → waits r i j ≡ false

module _ (n : ℕ) (H : Lists) (oldest : ℕ → ℕ) (failed : ℕ → Bool) (cs : List Cluster) (sd : Sound H oldest) (cl : Clusters n cs H oldest) where
  -- one alert taken
  pub taken_less : (r : Restart) → Going n H oldest failed r → (i j : ℕ) → waits r i j ≡ true → alerts_in (taken r i j) + 1 ≡ alerts_in r.waiting
  taken_less r go i j w =
      let p = go.proper i j w in
      let f = cl.few in
      let l = go.waiting_long in
      let a = alerts-set r.waiting i (record { to = set (get_or r.waiting i to_nobody).to j false }) (let h = p.0 in omega arith) in
      let b = trues-set (get_or r.waiting i to_nobody).to j w in
      omega arith

  pub carry_less : (r : Restart) → Going n H oldest failed r → (i j : ℕ) → waits r i j ≡ true → enough (carry cs r i j) < enough r
  carry_less r go i j w =
      let p = go.proper i j w in
      let t = taken_less r go i j w in
      let c : carry cs r i j ≡ carried n r i j (called_to cs r i j) = ap (λ (z : ℕ). carried z r i j (called_to cs r i j)) cl.count in
      elim (called_ways n H oldest failed cs sd cl r go i j p.0 p.1 p.2) [
        | inl v ↦ subst (λ (z : Restart). enough z < enough r) (sym (c ∙ ap (carried n r i j) v.0)) (omega arith)
        | inr v ↦ subst (λ (z : Restart). enough z < enough r) (sym (c ∙ ap (carried n r i j) v.1)) (moves r go i j p t v.0 v.2 v.4)
      ]
    where
      moves : (r : Restart) → Going n H oldest failed r → (i j : ℕ) → (i < n) × (j < n) × (i ≡ j → ⊥) → alerts_in (taken r i j) + 1 ≡ alerts_in r.waiting → (q : ℕ) →
          Move H heard failed i j (places_of n r H i) (places_of n r H j) q → q ≤ number (H j) → enough (carried n r i j (Some q)) < enough r
      moves r go i j p t q mv hq =
          let f = cl.few in
          let hj = p.1 in
          let l = go.waiting_long in
          let m = go.places_long in
          let tl = length-set r.waiting i (record { to = set (get_or r.waiting i to_nobody).to j false }) in
          let a = alerts-set (taken r i j) j (to_others n j) (omega arith) in
          let b = trues-length (to_others n j).to in
          let d = others_long n j f in
          let e = total-set r.places j q (omega arith) in
          let g : q < place r j = (elim (places_ways n r H j) [
            | inl w ↦ (let x = w.2 in let y = mv.lower in omega arith)
            | inr w ↦ (let x = w.0 hj in let y = cl.small j in omega arith)
          ]) in
          omega arith

  pub drain_done : (k : ℕ) (r : Restart) → Going n H oldest failed r → enough r ≤ k → Going n H oldest failed (drain k cs r) × Done (drain k cs r)
  drain_done zero r go h =
      elim (first_waiting_ways r.waiting 0) [
        | inl w ↦ (go, w.1)
        | inr w ↦ (let a = carry_less r go w.0 w.1 w.3 in absurd (omega arith))
      ]
  drain_done (suc k) r go h =
      elim (first_waiting_ways r.waiting 0) [
        | inl w ↦ (
            let e : drain (suc k) cs r ≡ r = ap (λ (z : Option (ℕ × ℕ)). onward (drain k cs) cs z r) w.0 in
            subst (λ (z : Restart). Going n H oldest failed z × Done z) (sym e) (go, w.1))
        | inr w ↦ (
            let i = w.0 in
            let j = w.1 in
            let p = go.proper i j w.3 in
            let e : drain (suc k) cs r ≡ drain k cs (carry cs r i j) =
            ap (λ (z : Option (ℕ × ℕ)). onward (drain k cs) cs z r) (w.2 ∙ ap (λ (z : ℕ). Some (z, j)) (omega arith)) in
            let a = carry_less r go i j w.3 in
            subst (λ (z : Restart). Going n H oldest failed z × Done z) (sym e)
            (drain_done k (carry cs r i j) (carry_going n H oldest failed cs sd cl r go i j p.0 p.1 p.2) (omega arith)))
      ]

  pub drained_done : (r : Restart) → Going n H oldest failed r → Going n H oldest failed (drained cs r) × Done (drained cs r)
  drained_done r go = drain_done (enough r) r go (omega arith)

  pub done_final : (r : Restart) → Going n H oldest failed r → Done r → Final H heard (places_of n r H)
  done_final r go d i k ne = elim (go.pending i k ne) [ inl f ↦ f | inr w ↦ absurd (true≢false (sym w ∙ d i k)) ]
