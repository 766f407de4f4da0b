-- A trial carries the alerts of a fault without it; whatever alerts are carried one by one before finish, the fault ends at the same places.
use Rattle.std.proofs.Common.{◌≡◌, ℕ, suc, ◌<◌, Bool, true, false, cond, not, eqb, ltb, List, [], ◌∷◌, map, length, get_or, Some, None, Ok, Err, Option, Result, refl, ap, ◌∙◌, subst, ap₂, arith}
use lib.ListN.{length-map, get_or-map}
use Rattle.std.proofs.lemmas.Bool.{eq-eqb, ltb-true}
use Rattle.refusal.specs.declared.Refusal.{Refusal}
use Rattle.refusal.specs.declared.Refusal.TheVariants as refuses
use Rattle.store.specs.Table.{both}
use Rattle.law.specs.declared.Restart.{Restart}
use Rattle.refusal.specs.Answers.{replied, unless_refused}
use Rattle.law.specs.Book.{Book, Cluster, Ticket, count, nobody, with_round, with_restart, number}
use Rattle.law.specs.Messages.{Rule}
use Rattle.law.specs.Restarts.{waits, called_to, carried, carry, drained, begun, drop_rounds, told, fault_refusal, faulted, ticket, holds, alert_refusal, alert_book, finish_book, settle, resume_tells, tells_places, again, log_back}
use Rattle.law.specs.Trials.{trial as trial_places, trial_refusal}
use Rattle.law.specs.Calls.{fault, resume, trial, reply, step, after}
use Rattle.law.specs.Law.{carry_then_finish}
use Rattle.law.specs.History.{Told}
use Rattle.law.proofs.Going.{Going, Clusters, carry_going}
use Rattle.law.proofs.Begun.{begun_going, just}
use Rattle.law.proofs.Drains.{drained_done, done_final}
use Rattle.law.proofs.Collects.{trial_going}
use Rattle.law.proofs.Same.{same_places, take_same}
use Rattle.law.proofs.State.{State, passes, escapes, clusters_same}

-- an accepted answer tells just what it tells
accepted_none : {A : Type 0} (o : Option Refusal) (v w : A) → ◌≡◌ {A = Result A Refusal} (replied o v) (Ok w) → (o ≡ None) × (v ≡ w)
accepted_none {A} None v w e = (refl, ap (tells v) e)
  where
    tells : A → Result A Refusal → A
    tells d (Ok x) = x
    tells d (Err why) = d
accepted_none (Some why) v w e = let z : ◌≡◌ {A = ℕ} 0 1 = cc in absurd (omega arith)

module _ (n nodes : ℕ) (says : Rule) (b : Book) (h : Told) (st : State n nodes b h) (f : ℕ) (hf : f < n) where
  abbrev cs : List Cluster
  cs = b.clusters

  abbrev ds : List Cluster
  ds = drop_rounds b.clusters

  abbrev t : Ticket
  t = ticket (faulted b f)

  abbrev Goes : Restart → Type 0
  Goes r = Going n h.events h.oldest (just f) r × (r.settled ≡ false)

  -- the book of the fault, at this point of its restart
  abbrev at_point : Restart → Book
  at_point r = with_restart (faulted b f) (Some r)

  dropped : (k : ℕ) → get_or ds k nobody ≡ with_round (get_or cs k nobody) None
  dropped k = get_or-map (λ c. with_round c None) cs k nobody

  ds_right : Clusters n ds h.events h.oldest
  ds_right =
      clusters_same n cs ds h.events h.oldest (length-map cs (λ c. with_round c None))
      (λ k. (ap (λ (z : Cluster). z.row) (dropped k), ap (λ (z : Cluster). z.kept) (dropped k))) st.clusters

  holds_own : (r : Restart) → holds (at_point r) t ≡ true
  holds_own r = ap₂ both (eq-eqb b.name b.name refl) (eq-eqb (suc b.restarts) (suc b.restarts) refl)

  kept_stage : (r : Restart) (i j : ℕ) (x : Option ℕ) → (carried (length ds) r i j x).settled ≡ r.settled
  kept_stage r i j None = refl
  kept_stage r i j (Some p) = refl

  -- an alert, accepted or refused, leads to another point
  one_alert : (r : Restart) → Goes r → (i j : ℕ) → (q : Restart) × Goes q × (alert_book (at_point r) t i j ≡ at_point q)
  one_alert r g i j = go (alert_refusal (at_point r) t i j) refl
    where
      go : (o : Option Refusal) → alert_refusal (at_point r) t i j ≡ o → (q : Restart) × Goes q × (unless_refused o (at_point r) (at_point (carry ds r i j)) ≡ at_point q)
      go (Some why) e = (r, g, refl)
      go None e =
          let p1 = passes (both (ltb i (length ds)) (ltb j (length ds))) refuses.NoCluster _ e in
          let p2 = escapes (eqb i j) refuses.SameCluster _ p1.1 in
          let p3 = passes (waits r i j) refuses.NoAlert _ p2.1 in
          let pr = g.0.proper i j p3.0 in (
            carry ds r i j,
            (carry_going n h.events h.oldest (just f) ds st.sound ds_right r g.0 i j pr.0 pr.1 pr.2, kept_stage r i j (called_to ds r i j) ∙ g.1),
            refl,
          )

  -- finish and resume on the ticket of the fault are accepted
  ends : (r : Restart) → Goes r → resume_tells (finish_book (at_point r) t) t ≡ Ok (tells_places (length ds) (drained ds r).places, again (drained ds r).places (log_back (drained ds r).places b.log))
  ends r g =
      let q = drained ds r in
      let fin : finish_book (at_point r) t ≡ at_point (settle q) =
      ap₂ (λ (x y : Bool). unless_refused (cond (both x (not y)) None (Some refuses.WrongTicket)) (at_point r) (at_point (settle q))) (holds_own r) g.1 in
      ap (λ (z : Book). resume_tells z t) fin
      ∙ ap (λ (x : Bool). replied (cond (both x true) None (Some refuses.WrongTicket)) (tells_places (length ds) q.places, again q.places (log_back q.places b.log))) (holds_own (settle q))

  -- the places at the end are those of the trial
  same_end : (r : Restart) → Goes r → tells_places (length ds) (drained ds r).places ≡ tells_places (count b) (trial_places cs f)
  same_end r g =
      let q = drained ds r in
      let d = drained_done n h.events h.oldest (just f) ds st.sound ds_right r g.0 in
      let w = trial_going n h.events h.oldest cs st.sound st.clusters f hf in
      let u = drained cs (begun cs f) in
      let cn = st.clusters.count in
      let l1 = d.0.places_long in
      let l2 = w.0.places_long in
      ap (λ (m : ℕ). tells_places m q.places) (length-map cs (λ c. with_round c None))
      ∙ ap (map told) (take_same (count b) q.places u.places (omega arith)
      (λ j hj. same_places n h.events h.oldest (just f) cs st.sound st.clusters q u d.0 w.0
      (done_final n h.events h.oldest (just f) ds st.sound ds_right q d.0 d.1)
      (done_final n h.events h.oldest (just f) cs st.sound st.clusters u w.0 w.1) j (omega arith)))

  all_alerts : (alerts : List (ℕ × ℕ)) (r : Restart) → Goes r → (ids : List ℕ) × (resume_tells (after says (carry_then_finish t alerts) (at_point r)) t ≡ Ok (tells_places (count b) (trial_places cs f), ids))
  all_alerts [] r g =
      (again (drained ds r).places (log_back (drained ds r).places b.log), ends r g ∙ ap (λ (z : List ℕ). Ok (z, again (drained ds r).places (log_back (drained ds r).places b.log))) (same_end r g))
  all_alerts (p ∷ alerts) r g =
      let q = one_alert r g p.0 p.1 in
      let ih = all_alerts alerts q.0 q.1 in
      (ih.0, ap (λ (z : Book). resume_tells (after says (carry_then_finish t alerts) z) t) q.2 ∙ ih.1)

pub trial_right : (n nodes : ℕ) (says : Rule) (b : Book) (h : Told) → State n nodes b h → (f p : ℕ) (t : Ticket) (places : List ℕ) (alerts : List (ℕ × ℕ)) →
    reply says b (trial f) ≡ Ok places → reply says b (fault f) ≡ Ok (p, t) →
    (ids : List ℕ) × (reply says (after says (fault f ∷ carry_then_finish t alerts) b) (resume t) ≡ Ok (places, ids))
trial_right n nodes says b h st f p t places alerts tr fa =
    let a = accepted_none (trial_refusal b f) (tells_places (count b) (trial_places b.clusters f)) places tr in
    let c = accepted_none (fault_refusal b f) (number b f, ticket (faulted b f)) (p, t) fa in
    let hf = ltb-true f (count b) (passes (ltb f (count b)) refuses.NoCluster _ c.0).0 in
    let cn = st.clusters.count in
    let lt : f < n = omega arith in
    let b1 : step says b (fault f) ≡ faulted b f = ap (λ (o : Option Refusal). unless_refused o b (faulted b f)) c.0 in
    let w = all_alerts n nodes says b h st f lt alerts (begun b.clusters f) (begun_going n h.events h.oldest b.clusters st.sound st.clusters f lt, refl) in
    let tk : ticket (faulted b f) ≡ t = ap (λ (z : ℕ × Ticket). z.1) c.1 in (
      w.0,
      subst (λ (z : Ticket). resume_tells (after says (fault f ∷ carry_then_finish z alerts) b) z ≡ Ok (places, w.0)) tk
          (ap (λ (z : Book). resume_tells (after says (carry_then_finish (ticket (faulted b f)) alerts) z) (ticket (faulted b f))) b1
          ∙ w.1 ∙ ap (λ (z : List ℕ). Ok (z, w.0)) a.1),
    )
