-- A restart begins right: the failed cluster goes back to its newest checkpoint, every other stays, and an alert waits for each.
use Rattle.std.proofs.Common.{◌≡◌, ℕ, zero, suc, ◌<◌, Bool, false, eqb, List, length, get_or, replicate, sym, refl, ap, ◌∙◌, subst, inl, inr, arith, length-set, get_or-set_other, get_or-set_same}
use lib.ListN.{get_or-replicate}
use Rattle.std.proofs.lemmas.Bool.{true≢false, cases_eq, cases_lt, eqb-true, eq-eqb}
use Rattle.law.specs.declared.Alerts.{Alerts}
use Rattle.law.specs.declared.Restart.{Restart}
use Rattle.law.specs.Book.{Cluster, entry, nobody, stays}
use Rattle.law.specs.Restarts.{place, waits, begun, to_others, to_nobody}
use Rattle.law.specs.Events.{Lists, After, number}
use Rattle.law.specs.Chains.{itself, Reached}
use Rattle.law.proofs.Lists.{after-number, after_in}
use Rattle.law.proofs.Sound.{Sound}
use Rattle.law.proofs.Waiting.{others_true, others_only, others_long, replicate-false}
use Rattle.law.proofs.Kept.{heard-back}
use Rattle.law.proofs.Going.{places_of, places_ways, Going, Clusters, heard-number}

-- the cluster that failed
abbrev pub just : ℕ → ℕ → Bool
just f i = eqb i f

module _ (n : ℕ) (H : Lists) (oldest : ℕ → ℕ) (cs : List Cluster) (sd : Sound H oldest) (cl : Clusters n cs H oldest) (f : ℕ) (hf : f < n) where
  abbrev r : Restart
  r = begun cs f

  f_small : f < 8
  f_small = let a = cl.few in omega arith

  own : entry (get_or cs f nobody).row f ≡ number (H f)
  own = (cl.agree f hf).live.own

  place_f : place r f ≡ number (H f)
  place_f = get_or-set_same (replicate 8 stays) f (entry (get_or cs f nobody).row f) 0 f_small ∙ own

  place_other : (k : ℕ) → (k ≡ f → ⊥) → k < n → place r k ≡ stays
  place_other k ne h =
      let a = cl.few in
      get_or-set_other (replicate 8 stays) f k (entry (get_or cs f nobody).row f) 0 ne ∙ get_or-replicate 8 k stays 0 (omega arith)

  P_f : places_of n r H f ≡ number (H f)
  P_f =
      let s = cl.small f in
      let p = place_f in
      elim (places_ways n r H f) [ inl w ↦ w.2 ∙ p | inr w ↦ (let a = w.0 hf in absurd (omega arith)) ]

  P_other : (k : ℕ) → (k ≡ f → ⊥) → places_of n r H k ≡ suc (number (H k))
  P_other k ne = elim (places_ways n r H k) [ inl w ↦ absurd (w.1 (place_other k ne w.0)) | inr w ↦ w.1 ]

  alerts_f : get_or r.waiting f to_nobody ≡ to_others n f
  alerts_f =
      get_or-set_same (replicate 8 to_nobody) f (to_others (length cs) f) to_nobody f_small ∙ ap (λ (z : ℕ). to_others z f) cl.count

  alerts_other : (k : ℕ) → (k ≡ f → ⊥) → get_or r.waiting k to_nobody ≡ to_nobody
  alerts_other k ne =
      get_or-set_other (replicate 8 to_nobody) f k (to_others (length cs) f) to_nobody ne ∙ all_nobody 8 k
    where
      all_nobody : (m k : ℕ) → get_or (replicate m to_nobody) k to_nobody ≡ to_nobody
      all_nobody zero k = refl
      all_nobody (suc m) zero = refl
      all_nobody (suc m) (suc k) = all_nobody m k

  pub begun_going : Going n H oldest (just f) r
  begun_going =
      record {
        places_long = length-set (replicate 8 stays) f (entry (get_or cs f nobody).row f);
        waiting_long = length-set (replicate 8 to_nobody) f (to_others (length cs) f);
        to_long = λ i. elim (cases_eq i f) [
          | inl e ↦ ap (λ (z : ℕ). length (get_or r.waiting z to_nobody).to) e ∙ ap (λ (z : Alerts). length z.to) alerts_f ∙ others_long n f cl.few
          | inr e ↦ ap (λ (z : Alerts). length z.to) (alerts_other i e)
        ];
        only = λ k e h. elim (cases_eq k f) [
          | inl d ↦ (
              let a : After (number (H f)) (H f) e = subst (λ (z : ℕ). After z (H f) e) P_f (subst (λ (z : ℕ). After (places_of n r H z) (H z) e) d h) in
              subst (λ (z : ℕ). Reached H (just f) z e) (sym d)
              (record { cluster = f; event = e; lost = (eq-eqb f f refl, a); chain = itself (after_in (number (H f)) (H f) e a) }))
          | inr d ↦ (let a = after-number (places_of n r H k) (H k) e h in let b = P_other k d in absurd (omega arith))
        ];
        kept = λ k hk. elim (cases_eq k f) [
          | inl d ↦ (
              let a : place r k ≡ number (H f) = ap (place r) d ∙ place_f in
              let b : number (H k) ≡ number (H f) = ap (λ (z : ℕ). number (H z)) d in
              let c : oldest k ≡ oldest f = ap oldest d in
              let e = sd.oldest_stands f in
              inr (omega arith))
          | inr d ↦ inl (place_other k d hk)
        ];
        go_back = λ k hk. (
            let d = eqb-true k f hk in
            let a : places_of n r H k ≡ number (H f) = ap (places_of n r H) d ∙ P_f in
            let b : number (H k) ≡ number (H f) = ap (λ (z : ℕ). number (H z)) d in
            omega arith);
        pending = λ a k d. elim (cases_eq a f) [
          | inl e ↦ elim (cases_lt k n) [
            | inl h ↦ inr (ap (λ (z : ℕ). waits r z k) e ∙ ap (λ (z : Alerts). get_or z.to k false) alerts_f ∙ others_true n f k h (λ x. d (e ∙ sym x)))
            | inr h ↦ (
                let x = heard-back a (places_of n r H k) (H k) in
                let y = cl.silent k h a in
                let z : places_of n r H a ≡ number (H f) = ap (places_of n r H) e ∙ P_f in
                let u = sd.oldest_one f in
                let v = sd.oldest_stands f in
                inl (omega arith))
          ]
          | inr e ↦ (
              let x = heard-back a (places_of n r H k) (H k) in
              let y = heard-number H oldest sd a k in
              let z = P_other a e in
              inl (omega arith))
        ];
        proper = λ a k w. elim (cases_eq a f) [
          | inl e ↦ (
              let o = others_only n f k (sym (ap (λ (z : ℕ). waits r z k) e ∙ ap (λ (z : Alerts). get_or z.to k false) alerts_f) ∙ w) in
              (subst (λ (z : ℕ). z < n) (sym e) hf, o.0, (λ x. o.1 (sym x ∙ e))))
          | inr e ↦ absurd (true≢false (sym w ∙ ap (λ (z : Alerts). get_or z.to k false) (alerts_other a e) ∙ replicate-false 8 k))
        ];
        struck = λ k hk ns. elim (cases_eq k f) [ inl e ↦ inl (eq-eqb k f e) | inr e ↦ absurd (ns (place_other k e hk)) ];
      }
