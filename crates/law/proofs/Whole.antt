-- The law of lost work, from the agreement of book and history and the exactness of final places.
use Rattle.std.proofs.Common.{◌≡◌, ℕ, ◌<◌, ◌≤◌, Bool, true, cond, ◌↔◌, List, [], length, is_some, Some, None, Ok, Err, Option, Result, sym, refl, ap, ◌∙◌, subst, inl, inr, arith}
use mathlib.Core.Path.{fun_ext}
use lib.ListN.{get_or-eq_default}
use Rattle.std.proofs.lemmas.Bool.{lt-ltb, cases_lt}
use Rattle.refusal.specs.declared.Refusal.{Refusal}
use Rattle.refusal.specs.declared.Refusal.TheVariants as refuses
use Rattle.store.specs.Table.{lookup, both}
use Rattle.law.specs.declared.Checkpoint.{Checkpoint}
use Rattle.law.specs.declared.Restart.{Restart}
use Rattle.refusal.specs.Answers.{replied, unless_refused}
use Rattle.law.specs.Book.{Book, Ticket, at, count, checkpoint_at, nobody, Cluster}
use Rattle.law.specs.Messages.{Rule}
use Rattle.law.specs.Restarts.{place, entry_at, tells_places, resume_refusal, resume_at, resumed, resumed_to, resumed_tells, holds}
use Rattle.law.specs.Storing.{read_tells, read_refusal, held_by, words_held}
use Rattle.law.specs.Calls.{run, after}
use Rattle.law.specs.Events.{Event, Lists, ◌∈◌, back, number, heard, given}
use Rattle.law.specs.Chains.{Reached}
use Rattle.law.specs.History.{Told, tell_places, history, new_told}
use Rattle.law.specs.Opening.{open_book}
use Rattle.law.specs.Law.{Law, Restarted, Restarting, LawOfLostWork, Among}
use Rattle.law.specs.Trials.{collect_refusal}
use Rattle.law.proofs.Collected.{collecting}
use Rattle.law.proofs.Exact.{exact}
use Rattle.law.proofs.Sound.{rows}
use Rattle.law.proofs.Kept.{checkpoint_found, checkpoint_ways, number_back_is}
use Rattle.law.proofs.Going.{places_of, places_ways, entry_is, called_ways, heard_place}
use Rattle.law.proofs.Logs.{logs_again, logs_once}
use Rattle.law.proofs.Tables.{standing_ways, given_back}
use Rattle.store.proofs.Orders.{both_true}
use Rattle.law.proofs.State.{State, Open, passes}
use Rattle.law.proofs.Quiet.{open_restart}
use Rattle.law.proofs.Resume.{final, place_ways, goes_back, resumed_state}
use Rattle.law.proofs.Opened.{opened_state}
use Rattle.law.proofs.Steps.{calls_state}
use Rattle.law.proofs.Trials.{trial_right}

-- a kept checkpoint is read with the words that were given for it
pub reads : (n nodes : ℕ) (b : Book) (h : Told) → State n nodes b h → (i p : ℕ) → i < n → h.oldest i ≤ p → p ≤ number (h.events i) → read_tells b i p ≡ Ok (given p (h.events i))
reads n nodes b h st i p hi lo top =
    let cn = st.clusters.count in
    let k = (st.clusters.agree i hi).kept_all p lo top in
    let f = checkpoint_found (at b i).kept k.0 k.1 in
    let c : checkpoint_at (at b i).kept p ≡ Some f.0 = subst (λ (z : ℕ). checkpoint_at (at b i).kept z ≡ Some f.0) k.2 f.1 in
    let held : lookup b.store.table i p ≡ Some (given p (h.events i)) =
    st.table i p ∙ elim (standing_ways n h.events h.oldest i p) [ inl w ↦ w.1 | inr w ↦ absurd (w.0 (hi, lo, top)) ] in
    let ok : read_refusal b i p ≡ None =
    ap (λ (z : Bool). cond z (cond (is_some (checkpoint_at (at b i).kept p)) (held_by (lookup b.store.table i p)) (Some refuses.NotKept)) (Some refuses.NoCluster)) (lt-ltb i (count b) (omega arith))
    ∙ ap (λ (z : Option Checkpoint). cond (is_some z) (held_by (lookup b.store.table i p)) (Some refuses.NotKept)) c
    ∙ ap held_by held in
    ap (λ (z : Option Refusal). replied z (words_held (lookup b.store.table i p))) ok ∙ ap (λ (z : Option (List ℕ)). Ok (words_held z)) held

module _ (n nodes : ℕ) (says : Rule) (b : Book) (h : Told) (st : State n nodes b h) where
  -- an accepted resume of the restart that is open
  restarted_open : (r : Restart) → b.restart ≡ Some r → r.settled ≡ true → Restarted h (tells_places (count b) r.places) (tell_places h (tells_places (count b) r.places)) (resumed_to r.places b)
  restarted_open r e settled =
      record {
        undone = λ j x m. subst (λ (H : Lists). (x ∈ (tell_places h ps).events j → ⊥) ↔ Reached H h.failed j x) (sym same)
            (subst (λ (L : List Event). (x ∈ L → ⊥) ↔ Reached h.events h.failed j x) (sym (goes_back n nodes b h st r op settled j))
            (exact h.events heard h.failed (places_of n r h.events) st.sound.messages (rows h.events h.oldest st.sound) (final n nodes b h st r op settled) op.going.go_back op.going.only j x
            (subst (λ (L : List Event). x ∈ L) (op.same j) m)));
        words = λ j one. elim (place_ways n nodes b h st r op settled j) [
          | inl w ↦ (
              let p = place r j in
              let nb = number_back_is p (h.events j) w.4 in
              let gn : number ((tell_places h ps).events j) ≡ number (back p (h.events j)) = ap number w.5 in
              ap (read_tells (resumed_to r.places b) j) w.6
              ∙ reads n nodes (resumed_to r.places b) (tell_places h ps) (resumed_state n nodes b h st r op settled) j p w.0 w.3 (omega arith)
              ∙ ap (λ (L : List Event). Ok (given p L)) w.5
              ∙ ap (λ (ws : List ℕ). Ok ws) (given_back p p (h.events j) (omega arith) ∙ ap (given p) (sym (op.same j)))
              ∙ ap (λ (q : ℕ). Ok (given q (h.at_fault j))) (sym w.6))
          | inr w ↦ (let z = w.3 in absurd (omega arith))
        ];
      }
    where
      ps : List ℕ
      ps = tells_places (count b) r.places

      op : Open n b.clusters h r
      op = open_restart n nodes b h st r e

      same : h.at_fault ≡ h.events
      same = fun_ext op.same

  -- the book keeps what the store holds
  kept : (i k : ℕ) → is_some (checkpoint_at (at b i).kept k) ≡ is_some (lookup b.store.table i k)
  kept i k =
      elim (standing_ways n h.events h.oldest i k) [
        | inl w ↦ (
            let c = (st.clusters.agree i w.0.0).kept_all k w.0.1 w.0.2 in
            let f = checkpoint_found (at b i).kept c.0 c.1 in
            ap (λ (z : ℕ). is_some (checkpoint_at (at b i).kept z)) (sym c.2) ∙ ap is_some f.1 ∙ sym (ap is_some (st.table i k ∙ w.1)))
        | inr w ↦ elim (checkpoint_ways (at b i).kept k) [
          | inl a ↦ ap is_some a ∙ sym (ap is_some (st.table i k ∙ w.1))
          | inr a ↦ elim (cases_lt i n) [
            | inl l ↦ (
                let q = (st.clusters.agree i l).kept_in a.0 a.2 in
                let e = a.3 in
                let lo = q.0 in
                let hi = q.1 in
                absurd (w.0 (l, omega arith, omega arith)))
            | inr l ↦ (
                let cn = st.clusters.count in
                let le : length b.clusters ≤ i = omega arith in
                let z : at b i ≡ nobody = get_or-eq_default b.clusters nobody le in
                elim (subst (λ (c : Cluster). Among a.0 c.kept) z a.2) [ ])
          ]
        ]
      ]

  restarting : (r : Restart) → b.restart ≡ Some r → Restarting b.clusters r
  restarting r e =
      record {
        found = λ i j w le. (
            let p = op.going.proper i j w in
            let en = entry_is n h.events h.oldest h.failed b.clusters st.sound st.clusters r op.going i j p.0 p.1 p.2 in
            elim (called_ways n h.events h.oldest h.failed b.clusters st.sound st.clusters r op.going i j p.0 p.1 p.2) [
              | inl v ↦ absurd (not-below i j p.0 v.1 en le)
              | inr v ↦ (v.0, v.1)
            ]);
        ended = op.settled;
      }
    where
      op : Open n b.clusters h r
      op = open_restart n nodes b h st r e

      not-below : (i j : ℕ) → i < n → heard i (back (places_of n r h.events j) (h.events j)) < places_of n r h.events i → entry_at b.clusters r i j ≡ heard i (back (places_of n r h.events j) (h.events j)) → place r i ≤ entry_at b.clusters r i j → ⊥
      not-below i j hi lt en le =
          let hp = heard_place n h.events h.oldest h.failed b.clusters st.sound st.clusters r op.going i j (places_of n r h.events j) in
          let sm = st.clusters.small i in
          elim (places_ways n r h.events i) [
            | inl w ↦ (let x = w.2 in omega arith)
            | inr w ↦ (let x = w.0 hi in omega arith)
          ]

  law : Law n nodes says h b
  law =
      record {
        again = logs_again n h.events h.oldest h.sends b.log b.next_id st.logs;
        known = λ j u m g. (st.sound.messages.gets j u m g).2;
        once = logs_once n h.events h.oldest h.sends b.log b.next_id st.logs st.sound;
        table = st.table;
        unique = st.unique;
        kept = kept;
        alerts = st.alerts;
        restarting = restarting;
        trial = trial_right n nodes says b h st;
        trial_leaves = λ f. refl;
        collecting = λ v e. collecting n nodes b h st (collect_refusal b) refl _ v refl e;
        restarted = λ t places ids e. accept t places ids b.restart refl (resume_refusal b t) refl e;
      }
    where
      accept : (t : Ticket) (places ids : List ℕ) (x : Option Restart) → b.restart ≡ x → (o : Option Refusal) → resume_at b t x ≡ o → replied o (resumed_tells b x) ≡ Ok (places, ids) →
          Restarted h places (tell_places h places) (unless_refused o b (resumed b x))
      accept t places ids x e (Some why) q f = let z : ◌≡◌ {A = ℕ} 0 1 = cc in absurd (omega arith)
      accept t places ids None e None q f = let z : ◌≡◌ {A = ℕ} 0 1 = cc in absurd (omega arith)
      accept t places ids (Some r) e None q f =
          let p = passes (both (holds b t) r.settled) refuses.WrongTicket None q in
          let s : tells_places (count b) r.places ≡ places = told_places f in
          subst (λ (z : List ℕ). Restarted h z (tell_places h z) (resumed_to r.places b)) s
          (restarted_open r e (both_true (holds b t) r.settled p.0).1)
        where
          first_of : Result (List ℕ × List ℕ) Refusal → List ℕ
          first_of (Ok v) = v.0
          first_of (Err why) = []

          told_places : {v : List ℕ × List ℕ} {w : List ℕ × List ℕ} → ◌≡◌ {A = Result (List ℕ × List ℕ) Refusal} (Ok v) (Ok w) → v.0 ≡ w.0
          told_places g = ap first_of g

pub law_of_lost_work : LawOfLostWork
law_of_lost_work name n nodes store says opens means calls =
    law n nodes says (after says calls (open_book name n nodes store)) (history nodes (run says calls (open_book name n nodes store)) (new_told nodes))
    (calls_state n nodes says means calls (open_book name n nodes store) (new_told nodes) (opened_state name n nodes store opens))
