-- Draining ends, whatever the restart: an alert calls a cluster back only below its place, so a move lowers the places by
-- more than the alerts that it adds, and any other alert is one less. More steps than that change nothing.
use Rattle.std.proofs.Common.{◌≡◌, ℕ, zero, suc, ◌+◌, ◌<◌, ◌≤◌, true, false, cond, ltb, leb, List, [], ◌∷◌, length, get_or, set, Some, None, Option, sym, refl, ap, ◌∙◌, subst, inl, inr, arith}
use Rattle.std.proofs.lemmas.List.{get_or_past, set_past}
use Rattle.std.proofs.lemmas.Bool.{cases_lt, cond_both, ltb-true, true≢false}
use Rattle.store.specs.Table.{both}
use Rattle.store.proofs.Orders.{both_true}
use Rattle.law.specs.declared.Alerts.{Alerts}
use Rattle.law.specs.declared.Checkpoint.{Checkpoint}
use Rattle.law.specs.declared.Restart.{Restart}
use Rattle.law.specs.Book.{Cluster as Group, nobody, entry}
use Rattle.law.specs.Restarts.{place, waits, latest, entry_at, called_to, carry, carried, taken, to_others, to_nobody, first_waiting, onward, drain, drained, total, alerts_in, enough}
use Rattle.law.proofs.Waiting.{others_long, replicate-false}
use Rattle.law.proofs.Drains.{first_waiting_ways, total-set, alerts-set, trues-set, trues-length}

latest-below : (i s p : ℕ) (cs : List Checkpoint) (found : Option ℕ) (q : ℕ) → (found ≡ Some q → q < p) → latest i s p cs found ≡ Some q → q < p
latest-below i s p [] found q h e = h e
latest-below i s p (c ∷ cs) found q h e =
    latest-below i s p cs (cond (both (ltb c.number p) (ltb (entry c.row i) s)) (Some c.number) found) q
    (cond_both (both (ltb c.number p) (ltb (entry c.row i) s)) (Some c.number) found (λ (z : Option ℕ). z ≡ Some q → q < p)
    (λ t same. let lt : c.number < p = ltb-true _ _ (both_true _ _ t).0 in let is : c.number ≡ q = cc in omega arith)
    (λ _. h))
    e

called_below : (cs : List Group) (r : Restart) (i j q : ℕ) → called_to cs r i j ≡ Some q → q < place r j
called_below cs r i j q =
    cond_both (leb (place r i) (entry_at cs r i j)) (latest i (place r i) (place r j) (get_or cs j nobody).kept None) None (λ (z : Option ℕ). z ≡ Some q → q < place r j)
    (λ _ e. latest-below i (place r i) (place r j) (get_or cs j nobody).kept None q (λ n. never n) e)
    (λ _ e. never e)
  where
    never : ◌≡◌ {A = Option ℕ} None (Some q) → q < place r j
    never n = let z : ◌≡◌ {A = ℕ} 0 1 = cc in omega arith

-- an alert waits only where there is a list of alerts
waits_within : (r : Restart) (i j : ℕ) → waits r i j ≡ true → i < length r.waiting
waits_within r i j w =
    elim (cases_lt i (length r.waiting)) [
      | inl h ↦ h
      | inr h ↦ absurd (true≢false (sym w ∙ ap (λ (z : Alerts). get_or z.to j false) (get_or_past r.waiting i to_nobody h) ∙ replicate-false 8 j))
    ]

taken_less : (r : Restart) (i j : ℕ) → waits r i j ≡ true → alerts_in (taken r i j) + 1 ≡ alerts_in r.waiting
taken_less r i j w =
    let a = alerts-set r.waiting i (record { to = set (get_or r.waiting i to_nobody).to j false }) (waits_within r i j w) in
    let b = trues-set (get_or r.waiting i to_nobody).to j w in
    omega arith

-- a cluster's alerts are at most eight
alerts_more : (ws : List Alerts) (j n : ℕ) → n ≤ 8 → alerts_in (set ws j (to_others n j)) ≤ alerts_in ws + 8
alerts_more ws j n few =
    elim (cases_lt j (length ws)) [
      | inl h ↦ (
          let a = alerts-set ws j (to_others n j) h in
          let b = trues-length (to_others n j).to in
          let d = others_long n j few in
          omega arith)
      | inr h ↦ (let e = ap alerts_in (set_past ws j (to_others n j) h) in omega arith)
    ]

places_less : (r : Restart) (j q : ℕ) → q < place r j → total (set r.places j q) + 1 ≤ total r.places
places_less r j q lt =
    elim (cases_lt j (length r.places)) [
      | inl h ↦ (let a = total-set r.places j q h in omega arith)
      | inr h ↦ (let z = get_or_past r.places j 0 h in absurd (omega arith))
    ]

module _ (cs : List Group) (few : length cs ≤ 8) where
  carry_less : (r : Restart) (i j : ℕ) → waits r i j ≡ true → enough (carry cs r i j) < enough r
  carry_less r i j w = by (called_to cs r i j) (called_below cs r i j)
    where
      by : (o : Option ℕ) → ((q : ℕ) → o ≡ Some q → q < place r j) → enough (carried (length cs) r i j o) < enough r
      by None below = let t = taken_less r i j w in omega arith
      by (Some q) below =
          let t = taken_less r i j w in
          let p = places_less r j q (below q refl) in
          let m = alerts_more (taken r i j) j (length cs) few in
          omega arith

  drain_none : (k : ℕ) (r : Restart) → first_waiting 0 r.waiting ≡ None → drain k cs r ≡ r
  drain_none zero r e = refl
  drain_none (suc k) r e = ap (λ (z : Option (ℕ × ℕ)). onward (drain k cs) cs z r) e

  drain_some : (k : ℕ) (r : Restart) (i j : ℕ) → first_waiting 0 r.waiting ≡ Some (i, j) → drain (suc k) cs r ≡ drain k cs (carry cs r i j)
  drain_some k r i j e = ap (λ (z : Option (ℕ × ℕ)). onward (drain k cs) cs z r) e

  -- the first alert that is found waits, so that carrying it is a step
  found_less : (r : Restart) (i j : ℕ) → first_waiting 0 r.waiting ≡ Some (i, j) → enough (carry cs r i j) < enough r
  found_less r i j e =
      elim (first_waiting_ways r.waiting 0) [
        | inl w ↦ (let n = w.0 in let z : ◌≡◌ {A = ℕ} 0 1 = cc in absurd (omega arith))
        | inr w ↦ (
            let f = w.2 in
            let same : ◌≡◌ {A = ℕ × ℕ} (i, j) (0 + w.0, w.1) = cc in
            let zero_more : 0 + w.0 ≡ w.0 = omega arith in
            carry_less r i j (ap (λ (p : ℕ × ℕ). waits r p.0 p.1) same ∙ ap (λ (z : ℕ). waits r z w.1) zero_more ∙ w.3))
      ]

  drain_same : (k m : ℕ) (r : Restart) → enough r ≤ k → enough r ≤ m → drain k cs r ≡ drain m cs r
  drain_same zero zero r h g = refl
  drain_same zero (suc m) r h g =
      elim (first_waiting_ways r.waiting 0) [
        | inl w ↦ sym (drain_none (suc m) r w.0)
        | inr w ↦ (let less = found_less r (0 + w.0) w.1 w.2 in absurd (omega arith))
      ]
  drain_same (suc k) zero r h g =
      elim (first_waiting_ways r.waiting 0) [
        | inl w ↦ drain_none (suc k) r w.0
        | inr w ↦ (let less = found_less r (0 + w.0) w.1 w.2 in absurd (omega arith))
      ]
  drain_same (suc k) (suc m) r h g =
      elim (first_waiting_ways r.waiting 0) [
        | inl w ↦ drain_none (suc k) r w.0 ∙ sym (drain_none (suc m) r w.0)
        | inr w ↦ (
            let less = found_less r (0 + w.0) w.1 w.2 in
            drain_some k r (0 + w.0) w.1 w.2
            ∙ drain_same k m (carry cs r (0 + w.0) w.1) (omega arith) (omega arith)
            ∙ sym (drain_some m r (0 + w.0) w.1 w.2))
      ]

  -- one step of the loop: it leads to the same end, and nearer to it
  pub step_same : (r next : Restart) (i j : ℕ) → Some (i, j) ≡ first_waiting 0 r.waiting → next ≡ carry cs r i j → drained cs next ≡ drained cs r
  step_same r next i j e is =
      let less = found_less r i j (sym e) in
      ap (drained cs) is
      ∙ drain_same (enough (carry cs r i j)) (enough r) (carry cs r i j) (omega arith) (omega arith)
      ∙ sym (drain_some (enough r) r i j (sym e))
      ∙ drain_same (suc (enough r)) (enough r) r (omega arith) (omega arith)

  pub step_less : (r next : Restart) (i j : ℕ) → Some (i, j) ≡ first_waiting 0 r.waiting → next ≡ carry cs r i j → enough next < enough r
  step_less r next i j e is = subst (λ (z : Restart). enough z < enough r) (sym is) (found_less r i j (sym e))

  pub drained_none : (r : Restart) → None ≡ first_waiting 0 r.waiting → drained cs r ≡ r
  drained_none r e = drain_none (enough r) r (sym e)
