-- Request, fault, alert and finish add no event: the book and the history go on agreeing.
use Rattle.store.specs.Table.{both}
use Rattle.std.proofs.Common.{◌≡◌, ℕ, zero, suc, ◌+◌, ◌-◌, ◌*◌, ◌<◌, ◌≤◌, Bool, true, false, cond, not, eqb, ltb, leb, List, length, get_or, set, replicate, is_some, Some, None, Option, sym, refl, ap, ◌∙◌, subst, inl, inr, mul-le-mul_left, arith, length-set}
use lib.ListN.{length-map, get_or-map}
use Rattle.std.proofs.lemmas.Bool.{true≢false, ltb-true, leb-false, eqb-true, eqb-false, not-true}
use Rattle.refusal.specs.declared.Refusal.TheVariants as refuses
use Rattle.law.specs.declared.Logged.{Logged}
use Rattle.law.specs.declared.Round.{Round}
use Rattle.law.specs.declared.Restart.{Restart}
use Rattle.law.specs.declared.Alerts.{Alerts}
use Rattle.law.specs.Book.{Book, Cluster, Ticket, at, count, nobody, number as number_in, with_cluster, with_round, with_restart}
use Rattle.law.specs.Messages.{new_round, round_refusal}
use Rattle.law.specs.Rounds.{request_refusal, request_at, requested}
use Rattle.law.specs.Restarts.{begun, drop_rounds, fault_refusal, faulted, alert_refusal, alert_at, alerted, carry, carried, called_to, taken, to_others, to_nobody, waits, alerts_in, trues, holds, finish_refusal, finish_at, finished}
use Rattle.law.specs.Law.{Among}
use Rattle.law.specs.Events.{Lists, number, heard}
use Rattle.law.specs.History.{Told, tell_fault, tell_alert}
use Rattle.law.proofs.Lists.{cond_ways}
use Rattle.law.proofs.Sound.{Sound}
use Rattle.law.proofs.Moves.{Move}
use Rattle.law.proofs.Going.{Going, Clusters, places_of, places_ways, called_ways, carry_going, moved_here, moved_there}
use Rattle.law.proofs.Begun.{begun_going, just}
use Rattle.law.proofs.Drains.{drained_done, taken_less, alerts-set}
use Rattle.store.proofs.Orders.{both_true}
use Rattle.law.proofs.State.{State, Open, RoundAgrees, RestartAgrees, sum_to, moves_left, passes, escapes, not_some, set_all, clusters_same}
use Rattle.law.proofs.Budget.{length_from, sum_less, sum_but_one, trues_others, failed-stays}

pub none_answers : (m rank w : ℕ) → get_or {A = Option ℕ} (replicate m None) rank None ≡ Some w → ⊥
none_answers zero rank w e = let z : ◌≡◌ {A = ℕ} 0 1 = cc in omega arith
none_answers (suc m) zero w e = let z : ◌≡◌ {A = ℕ} 0 1 = cc in omega arith
none_answers (suc m) (suc rank) w e = none_answers m rank w e

pub new_round_lem : (log : List Logged) (words : ℕ → ℕ) (i top keeps rank : ℕ) (waiting : Option ℕ) → (top < 1000000) × (keeps < 16) →
    ((id : ℕ) → waiting ≡ Some id → (x : Logged) × Among x log × (x.message.id ≡ id) × (x.receipt ≡ None) × (x.message.to ≡ i)) → RoundAgrees log words i top keeps (new_round rank waiting)
new_round_lem log words i top keeps rank waiting room w =
    record { room = room; waits_for = w; long = refl; answered = λ k v e. absurd (none_answers 32 k v e) }

pub restart_none : (n : ℕ) (cs : List Cluster) (h : Told) (o : Option Restart) → o ≡ None → RestartAgrees n cs h o
restart_none n cs h None e = tt
restart_none n cs h (Some r) e = let z : ◌≡◌ {A = ℕ} 0 1 = cc in absurd (omega arith)

some_same : {A : Type 0} (a b : A) → ◌≡◌ {A = Option A} (Some a) (Some b) → a ≡ b
some_same a b e = cc

-- a round may open where there is room for its checkpoint
pub room_for : (n nodes : ℕ) (b : Book) (h : Told) → State n nodes b h → (i : ℕ) → i < n → round_refusal b i ≡ None → (number (h.events i) < 1000000) × (length (at b i).kept < 16)
room_for n nodes b h st i hi e =
    let p = escapes (leb 16 (length (at b i).kept)) refuses.KeptFull (cond (leb 1000000 (number_in b i)) (Some refuses.NumbersSpent) None) e in
    let q = escapes (leb 1000000 (number_in b i)) refuses.NumbersSpent None p.1 in
    let a = leb-false 16 (length (at b i).kept) p.0 in
    let c = leb-false 1000000 (number_in b i) q.0 in
    let d = (st.clusters.agree i hi).live.own in
    (omega arith, a)

-- a cluster with another open round
pub round_state : (n nodes : ℕ) (b : Book) (h : Told) → State n nodes b h → (i : ℕ) → i < n → (r : Round) → RoundAgrees b.log (h.words i) i (number (h.events i)) (length (at b i).kept) r → b.restart ≡ None →
    State n nodes (with_cluster b i (with_round (at b i) (Some r))) h
round_state n nodes b h st i hi r agrees none =
    record {
      nodes_is = st.nodes_is;
      few-nodes = st.few-nodes;
      clusters = clusters_same n b.clusters (set b.clusters i new) h.events h.oldest (length-set b.clusters i new)
          (set_all b.clusters i new hc (λ k c. (c.row ≡ (get_or b.clusters k nobody).row) × (c.kept ≡ (get_or b.clusters k nobody).kept)) (refl, refl) (λ k ne. (refl, refl)))
          st.clusters;
      last = st.last;
      sound = st.sound;
      clock = st.clock;
      beyond = st.beyond;
      logs = st.logs;
      rounds = set_all b.clusters i new hc (λ k c. (q : Round) → c.round ≡ Some q → RoundAgrees b.log (h.words k) k (number (h.events k)) (length c.kept) q)
          (λ q e. subst (RoundAgrees b.log (h.words i) i (number (h.events i)) (length (at b i).kept)) (some_same r q e) agrees)
          (λ k ne q e. st.rounds k q e);
      few_kept = set_all b.clusters i new hc (λ k c. length c.kept ≤ 16) (st.few_kept i) (λ k ne. st.few_kept k);
      table = st.table;
      unique = st.unique;
      restart = restart_none n (set b.clusters i new) h b.restart none;
      alerts = st.alerts;
    }
  where
    new : Cluster
    new = with_round (at b i) (Some r)

    hc : i < length b.clusters
    hc = let c = st.clusters.count in omega arith

pub request_state : (n nodes : ℕ) (b : Book) (h : Told) → State n nodes b h → (i rank : ℕ) → request_refusal b i rank ≡ None →
    State n nodes (with_cluster b i (with_round (at b i) (Some (requested rank (at b i).round)))) h
request_state n nodes b h st i rank ok =
    let p1 = passes (ltb i (count b)) refuses.NoCluster _ ok in
    let p2 = passes (ltb rank b.nodes) refuses.NoRank _ p1.1 in
    let p3 = escapes (is_some b.restart) refuses.RestartOpen _ p2.1 in
    let hc = ltb-true i (count b) p1.0 in
    let cn = st.clusters.count in
    round_state n nodes b h st i (omega arith) (requested rank (at b i).round) (opened (omega arith) (at b i).round refl p3.1) (not_some b.restart p3.0)
  where
    opened : i < n → (o : Option Round) → (at b i).round ≡ o → request_at b i o ≡ None → RoundAgrees b.log (h.words i) i (number (h.events i)) (length (at b i).kept) (requested rank o)
    opened hi None e q =
        new_round_lem b.log (h.words i) i (number (h.events i)) (length (at b i).kept) rank None (room_for n nodes b h st i hi q)
        (λ id f. let z : ◌≡◌ {A = ℕ} 0 1 = cc in absurd (omega arith))
    opened hi (Some r) e q =
        let old = st.rounds i r e in
        elim (cond_ways (ltb rank r.initiator) (new_round rank r.waiting) r) [
          | inl w ↦ subst (RoundAgrees b.log (h.words i) i (number (h.events i)) (length (at b i).kept)) (sym w.1)
              (new_round_lem b.log (h.words i) i (number (h.events i)) (length (at b i).kept) rank r.waiting old.room old.waits_for)
          | inr w ↦ subst (RoundAgrees b.log (h.words i) i (number (h.events i)) (length (at b i).kept)) (sym w.1) old
        ]

-- places are at most one above the number, and a cluster keeps at most sixteen
pub left_most : (n nodes : ℕ) (b : Book) (h : Told) → State n nodes b h → (failed : ℕ → Bool) (r : Restart) → Going n h.events h.oldest failed r → (j : ℕ) → j < n →
    places_of n r h.events j ≤ h.oldest j + 16
left_most n nodes b h st failed r go j hj =
    let a = st.clusters.agree j hj in
    let l = length_from (at b j).kept (h.oldest j) (number (h.events j)) a.rising (λ k m. (a.kept_in k m).0) a.kept_all in
    let f = st.few_kept j in
    elim (places_ways n r h.events j) [
      | inl w ↦ (
          let e = w.2 in
          elim (go.kept j hj) [ inl s ↦ absurd (w.1 s) | inr s ↦ (let x = s.1 in omega arith) ])
      | inr w ↦ (let e = w.1 in omega arith)
    ]

pub fault_state : (n nodes : ℕ) (b : Book) (h : Told) → State n nodes b h → (f : ℕ) → fault_refusal b f ≡ None → State n nodes (faulted b f) (tell_fault h f)
fault_state n nodes b h st f ok =
    record {
      nodes_is = st.nodes_is;
      few-nodes = st.few-nodes;
      clusters = clusters_same n cs (drop_rounds cs) h.events h.oldest (length-map cs (λ c. with_round c None))
          (λ k. (ap (λ (z : Cluster). z.row) (dropped k), ap (λ (z : Cluster). z.kept) (dropped k))) st.clusters;
      last = st.last;
      sound = st.sound;
      clock = st.clock;
      beyond = st.beyond;
      logs = st.logs;
      rounds = λ k r e. (let q = ap (λ (z : Cluster). z.round) (dropped k) in let z : ◌≡◌ {A = ℕ} 0 1 = cc in absurd (omega arith));
      few_kept = λ k. subst (λ (z : Cluster). length z.kept ≤ 16) (sym (dropped k)) (st.few_kept k);
      table = st.table;
      unique = st.unique;
      restart = record {
        going = go;
        same = λ i. refl;
        still = λ k. ap (λ (z : Cluster). z.round) (dropped k);
        settled = λ e. absurd (true≢false (sym e));
        single = λ x y p q. eqb-true x f p ∙ sym (eqb-true y f q);
        spent = λ _. spent;
      };
      alerts = omega arith;
    }
  where
    cs : List Cluster
    cs = b.clusters

    p1 : (ltb f (count b) ≡ true) × (cond (is_some b.restart) (Some refuses.RestartOpen) (cond (leb 1000000 b.restarts) (Some refuses.NumbersSpent) None) ≡ None)
    p1 = passes (ltb f (count b)) refuses.NoCluster _ ok

    hf : f < n
    hf = let a = ltb-true f (count b) p1.0 in let c = st.clusters.count in omega arith

    dropped : (k : ℕ) → get_or (drop_rounds cs) k nobody ≡ with_round (get_or cs k nobody) None
    dropped k = get_or-map (λ c. with_round c None) cs k nobody

    go : Going n h.events h.oldest (just f) (begun cs f)
    go = begun_going n h.events h.oldest cs st.sound st.clusters f hf

    S : ℕ
    S = sum_to n (moves_left n (tell_fault h f) (begun cs f))

    left : (k : ℕ) → k < n → moves_left n (tell_fault h f) (begun cs f) k ≤ 16
    left k hk =
        let a = left_most n nodes b h st (just f) (begun cs f) go k hk in
        elim (cond_ways (eqb k f) 0 (places_of n (begun cs f) h.events k - h.oldest k)) [
          | inl w ↦ (let e = w.1 in omega arith)
          | inr w ↦ (let e = w.1 in omega arith)
        ]

    zero_f : moves_left n (tell_fault h f) (begun cs f) f ≡ 0
    zero_f =
        elim (cond_ways (eqb f f) 0 (places_of n (begun cs f) h.events f - h.oldest f)) [
          | inl w ↦ w.1
          | inr w ↦ absurd (eqb-false f f w.0 refl)
        ]

    all_nobody : (m k : ℕ) → get_or (replicate m to_nobody) k to_nobody ≡ to_nobody
    all_nobody zero k = refl
    all_nobody (suc m) zero = refl
    all_nobody (suc m) (suc k) = all_nobody m k

    spent : 0 + (n - 1) * S + alerts_in (begun cs f).waiting ≤ (n - 1) * (16 * n - 15)
    spent =
        let s = sum_but_one n (moves_left n (tell_fault h f) (begun cs f)) f hf zero_f left in
        let few = st.clusters.few in
        let f-low = hf in
        let a = alerts-set (replicate 8 to_nobody) f (to_others (length cs) f) (omega arith) in
        let z : alerts_in (replicate 8 to_nobody) ≡ 0 = refl in
        let y : trues (get_or (replicate 8 to_nobody) f to_nobody).to ≡ 0 = ap (λ (x : Alerts). trues x.to) (all_nobody 8 f) in
        let t : trues (to_others (length cs) f).to + 1 ≡ n = subst (λ (x : ℕ). trues (to_others x f).to + 1 ≡ n) (sym st.clusters.count) (trues_others n f hf) in
        let le : S + 1 ≤ 16 * n - 15 = omega arith in
        let m = mul-le-mul_left (n - 1) le in
        omega arith

-- the restart that is open
pub open_restart : (n nodes : ℕ) (b : Book) (h : Told) → State n nodes b h → (r : Restart) → b.restart ≡ Some r → Open n b.clusters h r
open_restart n nodes b h st r e = subst (RestartAgrees n b.clusters h) e st.restart

-- one alert carried: one less to spend
pub carry_open : (n nodes : ℕ) (b : Book) (h : Told) → State n nodes b h → (r : Restart) → Open n b.clusters h r → (i j : ℕ) → waits r i j ≡ true → r.settled ≡ false →
    Open n b.clusters (tell_alert h) (carry b.clusters r i j)
carry_open n nodes b h st r op i j w us =
    record {
      going = carry_going n H o failed cs sd cl r go i j pr.0 pr.1 pr.2;
      same = op.same;
      still = op.still;
      settled = λ e. absurd (true≢false (sym e ∙ kept_stage (called_to cs r i j) ∙ us));
      single = op.single;
      spent = λ _. spent;
    }
  where
    cs : List Cluster
    cs = b.clusters

    H : Lists
    H = h.events

    o : ℕ → ℕ
    o = h.oldest

    failed : ℕ → Bool
    failed = h.failed

    sd : Sound H o
    sd = st.sound

    cl : Clusters n cs H o
    cl = st.clusters

    go : Going n H o failed r
    go = op.going

    pr : (i < n) × (j < n) × (i ≡ j → ⊥)
    pr = go.proper i j w

    kept_stage : (x : Option ℕ) → (carried (length cs) r i j x).settled ≡ r.settled
    kept_stage None = refl
    kept_stage (Some p) = refl

    is : carry cs r i j ≡ carried n r i j (called_to cs r i j)
    is = ap (λ (z : ℕ). carried z r i j (called_to cs r i j)) cl.count

    taken_one : alerts_in (taken r i j) + 1 ≡ alerts_in r.waiting
    taken_one = taken_less n H o failed cs sd cl r go i j w

    Spends : Restart → Type 0
    Spends z = suc h.alerts + (n - 1) * sum_to n (moves_left n h z) + alerts_in z.waiting ≤ (n - 1) * (16 * n - 15)

    moved : (q : ℕ) → Move H heard failed i j (places_of n r H i) (places_of n r H j) q → o j ≤ q → q ≤ number (H j) → Spends (carried n r i j (Some q))
    moved q mv ho hq =
        let old = op.spent us in
        let t = taken_one in
        let hj = pr.1 in
        let few = cl.few in
        let l = go.waiting_long in
        let tl = length-set r.waiting i (record { to = set (get_or r.waiting i to_nobody).to j false }) in
        let a = alerts-set (taken r i j) j (to_others n j) (omega arith) in
        let c = trues_others n j hj in
        let s = sum_less n (moves_left n h r) (moves_left n h (carried n r i j (Some q))) j hj same_left less_left in
        let m = mul-le-mul_left (n - 1) s in
        omega arith
      where
        here : places_of n (carried n r i j (Some q)) H j ≡ q
        here = moved_here n H o failed cs sd cl r go i j pr.0 pr.1 pr.2 q mv ho hq

        same_left : (k : ℕ) → k < n → (k ≡ j → ⊥) → moves_left n h (carried n r i j (Some q)) k ≡ moves_left n h r k
        same_left k hk ne = ap (λ (z : ℕ). cond (failed k) 0 (z - o k)) (moved_there n H o failed cs sd cl r go i j pr.0 pr.1 pr.2 q mv ho hq k ne)

        less_left : moves_left n h (carried n r i j (Some q)) j < moves_left n h r j
        less_left =
            elim (cond_ways (failed j) 0 (places_of n (carried n r i j (Some q)) H j - o j)) [
              | inl w ↦ absurd (failed-stays H failed sd.messages op.single heard i j (places_of n r H i) (places_of n r H j) q mv w.0 (go.go_back j w.0))
              | inr w ↦ elim (cond_ways (failed j) 0 (places_of n r H j - o j)) [
                | inl v ↦ absurd (true≢false (sym v.0 ∙ w.0))
                | inr v ↦ (
                    let x = w.1 in
                    let y = v.1 in
                    let z = here in
                    let u = mv.lower in
                    omega arith)
              ]
            ]

    spent : Spends (carry cs r i j)
    spent =
        elim (called_ways n H o failed cs sd cl r go i j pr.0 pr.1 pr.2) [
          | inl v ↦ subst Spends (sym (is ∙ ap (carried n r i j) v.0)) (let old = op.spent us in let t = taken_one in omega arith)
          | inr v ↦ subst Spends (sym (is ∙ ap (carried n r i j) v.1)) (moved v.0 v.2 v.3 v.4)
        ]

pub alert_state : (n nodes : ℕ) (b : Book) (h : Told) → State n nodes b h → (t : Ticket) (i j : ℕ) → alert_refusal b t i j ≡ None →
    State n nodes (with_restart b (alerted b i j b.restart)) (tell_alert h)
alert_state n nodes b h st t i j ok = go b.restart refl p2.1
  where
    p1 : (both (ltb i (count b)) (ltb j (count b)) ≡ true) × (cond (eqb i j) (Some refuses.SameCluster) (alert_at b t i j b.restart) ≡ None)
    p1 = passes (both (ltb i (count b)) (ltb j (count b))) refuses.NoCluster _ ok

    p2 : (eqb i j ≡ false) × (alert_at b t i j b.restart ≡ None)
    p2 = escapes (eqb i j) refuses.SameCluster _ p1.1

    go : (x : Option Restart) → b.restart ≡ x → alert_at b t i j x ≡ None → State n nodes (with_restart b (alerted b i j x)) (tell_alert h)
    go None e q = let z : ◌≡◌ {A = ℕ} 0 1 = cc in absurd (omega arith)
    go (Some r) e q =
        let q1 = passes (waits r i j) refuses.NoAlert _ q in
        let q2 = passes (both (holds b t) (not r.settled)) refuses.WrongTicket None q1.1 in
        let us = not-true r.settled (both_true (holds b t) (not r.settled) q2.0).1 in
        let op = open_restart n nodes b h st r e in
        let new = carry_open n nodes b h st r op i j q1.0 us in
        record {
          nodes_is = st.nodes_is;
          few-nodes = st.few-nodes;
          clusters = st.clusters;
          last = st.last;
          sound = st.sound;
          clock = st.clock;
          beyond = st.beyond;
          logs = st.logs;
          rounds = st.rounds;
          few_kept = st.few_kept;
          table = st.table;
          unique = st.unique;
          restart = new;
          alerts = (let s = op.spent us in let a = taken_less n h.events h.oldest h.failed b.clusters st.sound st.clusters r op.going i j q1.0 in omega arith);
        }

pub finish_state : (n nodes : ℕ) (b : Book) (h : Told) → State n nodes b h → (t : Ticket) → finish_refusal b t ≡ None → State n nodes (with_restart b (finished b.clusters b.restart)) h
finish_state n nodes b h st t ok = go b.restart refl ok
  where
    go : (x : Option Restart) → b.restart ≡ x → finish_at b t x ≡ None → State n nodes (with_restart b (finished b.clusters x)) h
    go None e q = let z : ◌≡◌ {A = ℕ} 0 1 = cc in absurd (omega arith)
    go (Some r) e q =
        let op = open_restart n nodes b h st r e in
        let d = drained_done n h.events h.oldest h.failed b.clusters st.sound st.clusters r op.going in
        let g = d.0 in
        record {
          nodes_is = st.nodes_is;
          few-nodes = st.few-nodes;
          clusters = st.clusters;
          last = st.last;
          sound = st.sound;
          clock = st.clock;
          beyond = st.beyond;
          logs = st.logs;
          rounds = st.rounds;
          few_kept = st.few_kept;
          table = st.table;
          unique = st.unique;
          restart = record {
            going = record { places_long = g.places_long; waiting_long = g.waiting_long; to_long = g.to_long; only = g.only; kept = g.kept; go_back = g.go_back; pending = g.pending; proper = g.proper; struck = g.struck };
            same = op.same;
            still = op.still;
            settled = λ _. d.1;
            single = op.single;
            spent = λ f. absurd (true≢false f);
          };
          alerts = st.alerts;
        }
