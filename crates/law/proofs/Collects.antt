-- Collect: each bound is a place that no single fault undercuts, so what lies below it can never be needed.
use Rattle.std.proofs.Common.{◌≡◌, ℕ, zero, suc, ◌<◌, ◌≤◌, min, Bool, ltb, leb, List, [], ◌∷◌, length, get_or, take, replicate, None, sym, refl, ap, ◌∙◌, subst, inl, inr, arith, length-take, get_or-take}
use lib.ListN.{get_or-replicate, get_or-eq_default}
use Rattle.std.proofs.lemmas.Bool.{cases_eq, cases_lt, true≢false, ltb-true, ltb-false, le-leb, leb-true, eq-eqb}
use Rattle.store.specs.Table.{lookup}
use Rattle.law.specs.declared.Checkpoint.{Checkpoint}
use Rattle.law.specs.Book.{Book, Cluster, at, count, stays}
use Rattle.law.specs.Restarts.{begun, drained}
use Rattle.law.specs.Trials.{trial, lower, lowest, bounds, from, collected, log_from}
use Rattle.law.specs.Law.{standing}
use Rattle.law.specs.Events.{Event, Lists, After, number}
use Rattle.law.specs.History.{Told, tell_bounds}
use Rattle.law.proofs.Lists.{cond_ways}
use Rattle.law.proofs.Sound.{Sound}
use Rattle.law.proofs.Cuts.{sound-collect}
use Rattle.law.proofs.Kept.{ClusterAgrees}
use Rattle.law.proofs.Going.{Going, Clusters, places_of, places_ways}
use Rattle.law.proofs.Begun.{begun_going, just}
use Rattle.law.proofs.Drains.{Done, drained_done, done_final}
use Rattle.law.proofs.Among.{among_kept, kept_among}
use Rattle.law.proofs.Logs.{Logs}
use Rattle.law.proofs.LogCuts.{logs_collect}
use Rattle.law.proofs.Tables.{standing_ways, standing_same}
use Rattle.law.proofs.Prune.{rising_kept, length_kept, prune-count, prune-nodes, prune-next, prune-restart, prune_here, prune_there, prune-unique, prune-stays, prune_drops}
use Rattle.law.proofs.State.{State}
use Rattle.law.proofs.Quiet.{restart_none}

pub lower-length : (xs ys : List ℕ) → length xs ≡ length ys → length (lower xs ys) ≡ length xs
lower-length [] ys e = refl
lower-length (x ∷ xs) [] e = absurd (omega arith)
lower-length (x ∷ xs) (y ∷ ys) e = ap suc (lower-length xs ys (omega arith))

pub lower_at : (xs ys : List ℕ) (j : ℕ) → length xs ≡ length ys → get_or (lower xs ys) j 0 ≡ min (get_or xs j 0) (get_or ys j 0)
lower_at [] [] j e = refl
lower_at [] (y ∷ ys) j e = absurd (omega arith)
lower_at (x ∷ xs) [] j e = absurd (omega arith)
lower_at (x ∷ xs) (y ∷ ys) zero e = refl
lower_at (x ∷ xs) (y ∷ ys) (suc j) e = lower_at xs ys j (omega arith)

module _ (n : ℕ) (H : Lists) (oldest : ℕ → ℕ) (cs : List Cluster) (sd : Sound H oldest) (cl : Clusters n cs H oldest) where
  -- the end of a trial
  pub trial_going : (f : ℕ) → f < n → Going n H oldest (just f) (drained cs (begun cs f)) × Done (drained cs (begun cs f))
  trial_going f hf = drained_done n H oldest (just f) cs sd cl (begun cs f) (begun_going n H oldest cs sd cl f hf)

  -- a trial place is a kept checkpoint, or the mark of a cluster that stays
  trial_kept : (f : ℕ) → f < n → (j : ℕ) → j < n → oldest j ≤ get_or (trial cs f) j 0
  trial_kept f hf j hj =
      let o = sd.oldest_stands j in
      let s = cl.small j in
      elim ((trial_going f hf).0.kept j hj) [ inl e ↦ omega arith | inr e ↦ e.0 ]

  pub lowest_long : (m : ℕ) → m ≤ n → length (lowest m cs) ≡ 8
  lowest_long zero h = refl
  lowest_long (suc f) h =
      let a = lowest_long f (omega arith) in
      let b = (trial_going f (omega arith)).0.places_long in
      lower-length (lowest f cs) (trial cs f) (omega arith) ∙ a

  lowest_step : (f j : ℕ) → f < n → get_or (lowest (suc f) cs) j 0 ≡ min (get_or (lowest f cs) j 0) (get_or (trial cs f) j 0)
  lowest_step f j h =
      let a = lowest_long f (omega arith) in
      let b = (trial_going f h).0.places_long in
      lower_at (lowest f cs) (trial cs f) j (omega arith)

  pub lowest_kept : (m : ℕ) → m ≤ n → (j : ℕ) → j < n → oldest j ≤ get_or (lowest m cs) j 0
  lowest_kept zero h j hj =
      let few = cl.few in
      let a : get_or (replicate 8 stays) j 0 ≡ stays = get_or-replicate 8 j stays 0 (omega arith) in
      let o = sd.oldest_stands j in
      let s = cl.small j in
      omega arith
  lowest_kept (suc f) h j hj =
      let a = lowest_step f j (omega arith) in
      let b = lowest_kept f (omega arith) j hj in
      let c = trial_kept f (omega arith) j hj in
      omega arith

  pub lowest-below : (m : ℕ) → m ≤ n → (f : ℕ) → f < m → (j : ℕ) → get_or (lowest m cs) j 0 ≤ get_or (trial cs f) j 0
  lowest-below zero h f hf j = absurd (omega arith)
  lowest-below (suc g) h f hf j =
      let a = lowest_step g j (omega arith) in
      elim (cases_eq f g) [
        | inl e ↦ subst (λ (z : ℕ). get_or (lowest (suc g) cs) j 0 ≤ get_or (trial cs z) j 0) (sym e) (omega arith)
        | inr e ↦ (let b = lowest-below g (omega arith) f (omega arith) j in omega arith)
      ]

  -- the failed cluster's trial puts it at its number or below
  pub trial_own : (f : ℕ) → f < n → get_or (trial cs f) f 0 ≤ number (H f)
  trial_own f hf =
      let g = (trial_going f hf).0 in
      let b = g.go_back f (eq-eqb f f refl) in
      elim (places_ways n (drained cs (begun cs f)) H f) [
        | inl w ↦ (let e = w.2 in omega arith)
        | inr w ↦ (let e = w.1 in absurd (omega arith))
      ]

pub agrees_from : (n i : ℕ) (c : Cluster) (o p : ℕ) (L : List Event) → o ≤ p → ClusterAgrees n i c o L → ClusterAgrees n i (from p c) p L
agrees_from n i c o p L lo a =
    record {
      live = a.live;
      rising = rising_kept test c.kept a.rising;
      kept_in = λ k m. (let q = kept_among test c.kept k m in let r = a.kept_in k q.0 in (leb-true p k.number q.1, r.1, r.2));
      kept_all = λ q l h2. (
          let k = a.kept_all q (omega arith) h2 in
          let e = k.2 in
          (k.0, among_kept test c.kept k.0 k.1 (le-leb p k.0.number (omega arith)), e));
    }
  where
    test : Checkpoint → Bool
    test = λ k. leb p k.number

module _ (n nodes : ℕ) (b : Book) (h : Told) (st : State n nodes b h) (none : b.restart ≡ None) where
  abbrev H : Lists
  H = h.events

  abbrev bs : List ℕ
  bs = bounds b

  abbrev g : Told
  g = tell_bounds h (take (count b) bs)

  abbrev bound : ℕ → ℕ
  bound = g.oldest

  cn : count b ≡ n
  cn = st.clusters.count

  bs_long : length bs ≡ 8
  bs_long = lowest_long n H h.oldest b.clusters st.sound st.clusters (count b) (let c = cn in omega arith)

  bound_here : (i : ℕ) → i < n → bound i ≡ get_or bs i 0
  bound_here i hi =
      let c = cn in
      let l = bs_long in
      let few = st.clusters.few in
      get_or-take (count b) bs i (h.oldest i) (omega arith) ∙ default_free bs i (h.oldest i) 0 (omega arith)
    where
      default_free : (xs : List ℕ) (i d e : ℕ) → i < length xs → get_or xs i d ≡ get_or xs i e
      default_free [] i d e lt = absurd (omega arith)
      default_free (x ∷ xs) zero d e lt = refl
      default_free (x ∷ xs) (suc i) d e lt = default_free xs i d e (omega arith)

  bound_there : (i : ℕ) → n ≤ i → bound i ≡ h.oldest i
  bound_there i hi =
      let c = cn in
      let l = length-take (count b) bs in
      let le : length (take (count b) bs) ≤ i = omega arith in
      get_or-eq_default (take (count b) bs) (h.oldest i) le

  bound_up : (i : ℕ) → h.oldest i ≤ bound i
  bound_up i =
      elim (cases_lt i n) [
        | inl l ↦ (
            let a = bound_here i l in
            let c = cn in
            let k = lowest_kept n H h.oldest b.clusters st.sound st.clusters (count b) (omega arith) i l in
            omega arith)
        | inr l ↦ (let a = bound_there i l in omega arith)
      ]

  bound_place : (f : ℕ) → f < n → (j : ℕ) → j < n → bound j ≤ get_or (trial b.clusters f) j 0
  bound_place f hf j hj =
      let a = bound_here j hj in
      let c = cn in
      let k = lowest-below n H h.oldest b.clusters st.sound st.clusters (count b) (omega arith) f (omega arith) j in
      omega arith

  bound_stands : (i : ℕ) → bound i ≤ number (H i)
  bound_stands i =
      elim (cases_lt i n) [
        | inl l ↦ (
            let a = bound_place i l i l in
            let o = trial_own n H h.oldest b.clusters st.sound st.clusters i l in
            omega arith)
        | inr l ↦ (let a = bound_there i l in let o = st.sound.oldest_stands i in omega arith)
      ]

  sound_new : Sound H bound
  sound_new =
      sound-collect H h.oldest bound st.sound (λ j. (let a = st.sound.oldest_one j in let c = bound_up j in omega arith)) bound_stands
      (λ f x a. elim (cases_lt f n) [
        | inl l ↦ (
            let r = drained b.clusters (begun b.clusters f) in
            let tg = trial_going n H h.oldest b.clusters st.sound st.clusters f l in (
              places_of n r H,
              done_final n H h.oldest (just f) b.clusters st.sound st.clusters r tg.0 tg.1,
              tg.0.go_back f (eq-eqb f f refl),
              (λ j. (let s = bound_stands j in elim (places_ways n r H j) [
                | inl w ↦ (let e = w.2 in let p = bound_place f l j w.0 in omega arith)
                | inr w ↦ (let e = w.1 in omega arith)
              ])),
            ))
        | inr l ↦ absurd (idle f x l a)
      ])
    where
      idle : (f : ℕ) (x : Event) → n ≤ f → After (number (H f)) (H f) x → ⊥
      idle f x l a =
          let q = st.beyond f l in
          let c = subst (λ (z : List Event). After (number z) z x) q.1 a in
          elim c [ inl z ↦ (let y = z.1 in omega arith) | inr z ↦ elim z [ ] ]

  abbrev change : ℕ → Cluster → Cluster
  change = λ j. from (get_or bs j 0)

  abbrev gone : ℕ → ℕ → Bool
  gone = λ j m. ltb m (get_or bs j 0)

  abbrev new : Book
  new = collected b

  cluster_here : (i : ℕ) → i < n → at new i ≡ from (get_or bs i 0) (at b i)
  cluster_here i hi = let c = cn in prune_here change gone b (count b) i (omega arith) (omega arith)

  cluster_there : (i : ℕ) → n ≤ i → at new i ≡ at b i
  cluster_there i hi = let c = cn in prune_there change gone b (count b) i (omega arith)

  kept_fewer : (i : ℕ) → length (at new i).kept ≤ length (at b i).kept
  kept_fewer i =
      elim (cases_lt i n) [
        | inl l ↦ subst (λ (z : Cluster). length z.kept ≤ length (at b i).kept) (sym (cluster_here i l)) (length_kept (λ k. leb (get_or bs i 0) k.number) (at b i).kept)
        | inr l ↦ subst (λ (z : Cluster). length z.kept ≤ length (at b i).kept) (sym (cluster_there i l)) (omega arith)
      ]

  round_same : (i : ℕ) → (at new i).round ≡ (at b i).round
  round_same i =
      elim (cases_lt i n) [
        | inl l ↦ ap (λ (z : Cluster). z.round) (cluster_here i l)
        | inr l ↦ ap (λ (z : Cluster). z.round) (cluster_there i l)
      ]

  table_new : (i k : ℕ) → lookup new.store.table i k ≡ standing n H bound i k
  table_new i k =
      elim (cases_lt i n) [
        | inl hi ↦ (
            let bh = bound_here i hi in
            elim (cond_ways {A = ℕ} (ltb k (get_or bs i 0)) 0 0) [
              | inl w ↦ (
                  let lt = ltb-true k (get_or bs i 0) w.0 in
                  prune_drops change gone b st.unique (count b) i k (let c = cn in omega arith) w.0
                  (elim (standing_ways n H h.oldest i k) [
                    | inl v ↦ inr ((st.clusters.agree i hi).kept_all k v.0.1 v.0.2)
                    | inr v ↦ inl (st.table i k ∙ v.1)
                  ])
                  ∙ sym (elim (standing_ways n H bound i k) [
                    | inl v ↦ (let z = v.0.1 in absurd (omega arith))
                    | inr v ↦ v.1
                  ]))
              | inr w ↦ (
                  let le = ltb-false k (get_or bs i 0) w.0 in
                  prune-stays change gone b (count b) i k (λ _ q. true≢false (sym q ∙ w.0))
                  ∙ st.table i k
                  ∙ standing_same n H H h.oldest bound i k
                  (λ s. (s.0, omega arith, s.2)) (λ s. (s.0, (let u = bound_up i in let z = s.1 in omega arith), s.2)) (λ s. refl))
            ])
        | inr hi ↦ prune-stays change gone b (count b) i k (λ q _. (let c = cn in omega arith))
            ∙ st.table i k
            ∙ standing_same n H H h.oldest bound i k (λ s. (let q = s.0 in absurd (omega arith))) (λ s. (let q = s.0 in absurd (omega arith))) (λ s. refl)
      ]

  logs_new : Logs n H bound h.sends (log_from bs b.log) new.next_id
  logs_new =
      subst (λ (z : ℕ). Logs n H bound h.sends (log_from bs b.log) z) (sym (prune-next change gone b (count b)))
      (logs_collect n H h.oldest bound h.sends b.log b.next_id bs st.logs (λ j hj. sym (bound_here j hj)) bound_up)

  pub collected_state : State n nodes new g
  collected_state =
      record {
        nodes_is = prune-nodes change gone b (count b) ∙ st.nodes_is;
        few-nodes = st.few-nodes;
        clusters = record {
          count = prune-count change gone b (count b) ∙ cn;
          few = st.clusters.few;
          agree = λ i hi. (
              let up = bound_up i in
              let here = bound_here i hi in
              subst (λ (z : Cluster). ClusterAgrees n i z (bound i) (H i)) (sym (cluster_here i hi))
              (subst (λ (z : ℕ). ClusterAgrees n i (from (get_or bs i 0) (at b i)) z (H i)) (sym here)
              (agrees_from n i (at b i) (h.oldest i) (get_or bs i 0) (H i) (omega arith) (st.clusters.agree i hi))));
          small = st.clusters.small;
          silent = st.clusters.silent;
        };
        last = st.last;
        sound = sound_new;
        clock = st.clock;
        beyond = st.beyond;
        logs = logs_new;
        rounds = λ i q e. (
            let old = st.rounds i q (sym (round_same i) ∙ e) in
            let f = kept_fewer i in
            record {
              room = (let x = old.room.0 in let y = old.room.1 in (x, omega arith));
              waits_for = λ id w. (
                  let p = old.waits_for id w in
                  (p.0, among_kept (λ m. Rattle.law.specs.Trials.received_from (get_or bs m.message.to 0) m.receipt) b.log p.0 p.1 (ap (Rattle.law.specs.Trials.received_from (get_or bs p.0.message.to 0)) p.3), p.2, p.3, p.4));
              long = old.long;
              answered = old.answered;
            });
        few_kept = λ i. (let f = kept_fewer i in let c = st.few_kept i in omega arith);
        table = table_new;
        unique = prune-unique change gone b st.unique (count b);
        restart = restart_none n new.clusters g new.restart (prune-restart change gone b (count b) ∙ none);
        alerts = st.alerts;
      }
