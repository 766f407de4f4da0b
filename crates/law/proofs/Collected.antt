-- A collect drops what lies below the bounds that it tells, and no message that is still owed.
use Rattle.std.proofs.Common.{◌≡◌, ℕ, ◌<◌, ◌≤◌, true, List, [], length, get_or, take, is_some, Some, None, Ok, Err, Option, Result, sym, ap, ◌∙◌, subst, inl, inr, arith, length-take, get_or-take}
use lib.ListN.{get_or-eq_default}
use Rattle.std.proofs.lemmas.List.{get_or_default}
use Rattle.std.proofs.lemmas.Bool.{leb-true, cases_lt}
use Rattle.refusal.specs.declared.Refusal.{Refusal}
use Rattle.refusal.specs.declared.Refusal.TheVariants as refuses
use Rattle.refusal.specs.Answers.{replied, unless_refused}
use Rattle.law.specs.Book.{Book, count}
use Rattle.law.specs.Trials.{Collected, bounds, collect_refusal, collected, received_from}
use Rattle.law.specs.History.{Told, tell_bounds}
use Rattle.law.specs.Law.{Collecting}
use Rattle.law.proofs.Among.{among_kept, kept_among}
use Rattle.law.proofs.State.{State, escapes, not_some}
use Rattle.law.proofs.Collects.{collected_state}
use Rattle.law.proofs.Tables.{standing_ways}

-- a bound that is told is a bound
told_below : (n : ℕ) (bs : List ℕ) (i : ℕ) → get_or (take n bs) i 0 ≤ get_or bs i 0
told_below n bs i =
    elim (cases_lt i n) [
      | inl h ↦ (let e = get_or-take n bs i 0 h in omega arith)
      | inr h ↦ (let long : length (take n bs) ≤ i = omega (arith, length-take n bs) in let e = get_or-eq_default (take n bs) 0 long in omega arith)
    ]

abbrev bounds_of : Result Collected Refusal → List ℕ
bounds_of (Ok v) = v.bounds
bounds_of (Err why) = []

module _ (n nodes : ℕ) (b : Book) (h : Told) (st : State n nodes b h) where
  abbrev told : List ℕ
  told = take (count b) (bounds b)

  dropped : collect_refusal b ≡ None → Collecting n told b (collected b)
  dropped none =
      let new = collected_state n nodes b h st (not_some b.restart (escapes (is_some b.restart) refuses.RestartOpen None none).0) in
      record {
        below = λ i k hi lt. new.table i k ∙ elim (standing_ways n h.events (tell_bounds h told).oldest i k) [
          | inl w ↦ (
              let inside : i < length told = elim (cases_lt i (length told)) [ inl l ↦ l | inr l ↦ (let e = get_or-eq_default told 0 l in absurd (omega arith)) ] in
              let e = get_or_default told i 0 (h.oldest i) inside in
              let lo = w.0.1 in
              absurd (omega arith))
          | inr w ↦ w.1
        ];
        gone = λ x r a e.
            let t : received_from (get_or (bounds b) x.message.to 0) x.receipt ≡ true = (kept_among (λ m. received_from (get_or (bounds b) m.message.to 0) m.receipt) b.log x a).1 in
            let s = subst (λ (o : Option ℕ). received_from (get_or (bounds b) x.message.to 0) o ≡ true) e t in
            omega (arith, leb-true (get_or (bounds b) x.message.to 0) r s, told_below (count b) (bounds b) x.message.to);
        owed = λ x a e.
            among_kept (λ m. received_from (get_or (bounds b) m.message.to 0) m.receipt) b.log x a
            (ap (received_from (get_or (bounds b) x.message.to 0)) e);
      }

  pub collecting : (o : Option Refusal) → collect_refusal b ≡ o → (x v : Collected) → x.bounds ≡ told → replied o x ≡ Ok v
      → Collecting n v.bounds b (unless_refused o b (collected b))
  collecting (Some why) e x v same f = let z : ◌≡◌ {A = ℕ} 0 1 = cc in absurd (omega arith)
  collecting None e x v same f =
      subst (λ (bs : List ℕ). Collecting n bs b (collected b)) (sym same ∙ ap bounds_of f) (dropped e)
