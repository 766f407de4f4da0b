-- Resume: the book goes back as the history does, cluster by cluster.
use Rattle.std.proofs.Common.{◌≡◌, ℕ, suc, ◌<◌, ◌≤◌, Bool, true, ltb, leb, ◌⊎◌, List, length, get_or, take, Some, None, sym, refl, ap, ◌∙◌, subst, inl, inr, arith, length-take, get_or-take}
use lib.ListN.{get_or-map, get_or-eq_default}
use Rattle.std.proofs.lemmas.Bool.{cases_lt, true≢false, ltb-true, ltb-false, le-leb, leb-true}
use Rattle.store.specs.Table.{lookup}
use Rattle.law.specs.declared.Checkpoint.{Checkpoint}
use Rattle.law.specs.declared.Restart.{Restart}
use Rattle.law.specs.Book.{Book, Cluster, at, count, checkpoint_at, row_or, stays}
use Rattle.law.specs.Restarts.{place, told, tells_places, back as back_in, log_back, resumed_to}
use Rattle.law.specs.Law.{Among, standing}
use Rattle.law.specs.Events.{Event, Lists, ◌∈◌, back, number, heard, given}
use Rattle.law.specs.History.{Told, tell_places, strike}
use Rattle.law.proofs.Lists.{cond_ways, eqb_ways, in_back}
use Rattle.law.proofs.Closed.{Final}
use Rattle.law.proofs.Cuts.{KeptPlaces, back-stays, sound_cut}
use Rattle.law.proofs.Kept.{ClusterAgrees, Row_is, number_back_is, number-back, back-back, heard-back, checkpoint_found}
use Rattle.law.proofs.Going.{places_of, places_ways, kept_places}
use Rattle.law.proofs.Drains.{done_final}
use Rattle.law.proofs.Among.{among_kept, kept_among}
use Rattle.law.proofs.Logs.{Logs}
use Rattle.law.proofs.LogCuts.{logs_cut}
use Rattle.law.proofs.Tables.{standing_ways, standing_same, given_back}
use Rattle.law.proofs.Prune.{rising_kept, length_kept, prune-count, prune-nodes, prune-next, prune_here, prune_there, prune-unique, prune-stays, prune_drops}
use Rattle.law.proofs.State.{State, Open}

-- a cluster that goes back to a kept checkpoint
pub agrees_back : (n i : ℕ) (c : Cluster) (o p : ℕ) (L : List Event) → o ≤ p → p ≤ number L → (p ≡ stays → ⊥) → ClusterAgrees n i c o L → ClusterAgrees n i (back_in p c) o (back p L)
agrees_back n i c o p L lo hi ns a =
    record {
      live = subst (λ (z : List ℕ). Row_is n i z (back p L)) (sym row_is) (subst (λ (z : ℕ). Row_is n i f.0.row (back z L)) at_p (a.kept_in f.0 f.2).2);
      rising = rising_kept test c.kept a.rising;
      kept_in = λ k m. (
          let q = kept_among test c.kept k m in
          let r = a.kept_in k q.0 in
          let le = leb-true k.number p q.1 in
          let top = number_back_is p L hi in
          (r.0, omega arith, subst (Row_is n i k.row) (sym (back-back k.number p L le)) r.2));
      kept_all = λ q l h2. (
          let top = number_back_is p L hi in
          let k = a.kept_all q l (omega arith) in
          let e = k.2 in
          (k.0, among_kept test c.kept k.0 k.1 (le-leb k.0.number p (omega arith)), e));
    }
  where
    test : Checkpoint → Bool
    test = λ k. leb k.number p

    k0 : (k : Checkpoint) × Among k c.kept × (k.number ≡ p)
    k0 = a.kept_all p lo hi

    f : (d : Checkpoint) × (checkpoint_at c.kept k0.0.number ≡ Some d) × Among d c.kept × (d.number ≡ k0.0.number)
    f = checkpoint_found c.kept k0.0 k0.1

    at_p : f.0.number ≡ p
    at_p = f.3 ∙ k0.2

    row_is : (back_in p c).row ≡ f.0.row
    row_is =
        elim (eqb_ways p stays c.row (row_or c.row (checkpoint_at c.kept p))) [
          | inl w ↦ absurd (ns w.0)
          | inr w ↦ w.1 ∙ ap (row_or c.row) (subst (λ (z : ℕ). checkpoint_at c.kept z ≡ Some f.0) k0.2 f.1)
        ]

-- a cluster that stays
pub agrees_stays : (n i : ℕ) (c : Cluster) (o : ℕ) (L : List Event) → number L < stays → ClusterAgrees n i c o L → ClusterAgrees n i (back_in stays c) o L
agrees_stays n i c o L small a =
    record {
      live = subst (λ (z : List ℕ). Row_is n i z L) (sym (elim (eqb_ways stays stays c.row (row_or c.row (checkpoint_at c.kept stays))) [ inl w ↦ w.1 | inr w ↦ absurd (w.0 refl) ])) a.live;
      rising = rising_kept test c.kept a.rising;
      kept_in = λ k m. a.kept_in k (kept_among test c.kept k m).0;
      kept_all = λ q l h2. (
          let k = a.kept_all q l h2 in
          let e = k.2 in
          (k.0, among_kept test c.kept k.0 k.1 (le-leb k.0.number stays (omega arith)), e));
    }
  where
    test : Checkpoint → Bool
    test = λ k. leb k.number stays

module _ (n nodes : ℕ) (b : Book) (h : Told) (st : State n nodes b h) (r : Restart) (op : Open n b.clusters h r) (settled : r.settled ≡ true) where
  abbrev H : Lists
  H = h.events

  abbrev P : ℕ → ℕ
  P = places_of n r H

  abbrev ps : List ℕ
  ps = r.places

  abbrev g : Told
  g = tell_places h (tells_places (count b) ps)

  abbrev G : Lists
  G = g.events

  cn : count b ≡ n
  cn = st.clusters.count

  pub final : Final H heard P
  final = done_final n H h.oldest h.failed b.clusters st.sound st.clusters r op.going (op.settled settled)

  pub kept_at : KeptPlaces H h.oldest P
  kept_at = kept_places n H h.oldest h.failed b.clusters st.sound st.clusters r op.going

  told_place : (i : ℕ) → i < n → get_or (tells_places (count b) ps) i 0 ≡ told (place r i)
  told_place i hi =
      let c = cn in
      get_or-map told (take (count b) ps) i 0 ∙ ap told (get_or-take (count b) ps i 0 (omega arith))

  told_none : (i : ℕ) → n ≤ i → get_or (tells_places (count b) ps) i 0 ≡ 0
  told_none i hi =
      let c = cn in
      let l = length-take (count b) ps in
      let le : length (take (count b) ps) ≤ i = omega arith in
      get_or-map told (take (count b) ps) i 0 ∙ ap told (get_or-eq_default (take (count b) ps) 0 le)

  strike_none : (p : ℕ) (L : List Event) → p ≡ 0 → strike p L ≡ L
  strike_none p L e = elim (eqb_ways p 0 L (back p L)) [ inl w ↦ w.1 | inr w ↦ absurd (w.0 e) ]

  strike-back : (p : ℕ) (L : List Event) → 1 ≤ p → strike p L ≡ back p L
  strike-back p L one = elim (eqb_ways p 0 L (back p L)) [ inl w ↦ (let a = w.0 in absurd (omega arith)) | inr w ↦ w.1 ]

  -- a cluster goes back to a kept checkpoint, or stays
  pub place_ways : (i : ℕ) → ((i < n) × (place r i ≡ stays → ⊥) × (P i ≡ place r i) × (h.oldest i ≤ place r i) × (place r i ≤ number (H i)) × (G i ≡ back (place r i) (H i)) × (get_or (tells_places (count b) ps) i 0 ≡ place r i))
      ⊎ ((i < n → place r i ≡ stays) × (P i ≡ suc (number (H i))) × (G i ≡ H i) × (get_or (tells_places (count b) ps) i 0 ≡ 0))
  place_ways i =
      elim (places_ways n r H i) [
        | inl w ↦ elim (op.going.kept i w.0) [
          | inl s ↦ absurd (w.1 s)
          | inr s ↦ (
              let one = st.sound.oldest_one i in
              let lo = s.0 in
              let tp : get_or (tells_places (count b) ps) i 0 ≡ place r i = told_place i w.0 ∙ elim (eqb_ways (place r i) stays 0 (place r i)) [ inl v ↦ absurd (w.1 v.0) | inr v ↦ v.1 ] in
              inl (w.0, w.1, w.2, s.0, s.1, ap (λ (z : ℕ). strike z (H i)) tp ∙ strike-back (place r i) (H i) (omega arith), tp))
        ]
        | inr w ↦ (
            let tp : get_or (tells_places (count b) ps) i 0 ≡ 0 = (elim (cases_lt i n) [
              | inl l ↦ told_place i l ∙ elim (eqb_ways (place r i) stays 0 (place r i)) [ inl v ↦ v.1 | inr v ↦ absurd (v.0 (w.0 l)) ]
              | inr l ↦ told_none i l
            ]) in
            inr (w.0, w.1, strike_none (get_or (tells_places (count b) ps) i 0) (H i) tp, tp))
      ]

  pub goes_back : (i : ℕ) → G i ≡ back (P i) (H i)
  goes_back i =
      elim (place_ways i) [
        | inl w ↦ w.5 ∙ ap (λ (z : ℕ). back z (H i)) (sym w.2)
        | inr w ↦ w.2 ∙ sym (back-stays (P i) (H i) (let e = w.1 in omega arith))
      ]

  abbrev new : Book
  new = resumed_to ps b

  abbrev change : ℕ → Cluster → Cluster
  change = λ j. back_in (get_or ps j 0)

  cluster_here : (i : ℕ) → i < n → at new i ≡ back_in (place r i) (at b i)
  cluster_here i hi =
      let c = cn in
      prune_here (λ j. back_in (get_or ps j 0)) (λ j k. ltb (get_or ps j 0) k) b (count b) i (omega arith) (omega arith)

  cluster_there : (i : ℕ) → n ≤ i → at new i ≡ at b i
  cluster_there i hi =
      let c = cn in
      prune_there (λ j. back_in (get_or ps j 0)) (λ j k. ltb (get_or ps j 0) k) b (count b) i (omega arith)

  number-lower : (i : ℕ) → number (G i) ≤ number (H i)
  number-lower i =
      elim (place_ways i) [
        | inl w ↦ (let a : number (G i) ≡ number (back (place r i) (H i)) = ap number w.5 in let c = number-back (place r i) (H i) w.4 in let d = w.4 in omega arith)
        | inr w ↦ (let a : number (G i) ≡ number (H i) = ap number w.2 in omega arith)
      ]

  agree_new : (i : ℕ) → i < n → ClusterAgrees n i (at new i) (h.oldest i) (G i)
  agree_new i hi =
      subst (λ (z : Cluster). ClusterAgrees n i z (h.oldest i) (G i)) (sym (cluster_here i hi))
      (elim (place_ways i) [
        | inl w ↦ subst (ClusterAgrees n i (back_in (place r i) (at b i)) (h.oldest i)) (sym w.5) (agrees_back n i (at b i) (h.oldest i) (place r i) (H i) w.3 w.4 w.1 (st.clusters.agree i hi))
        | inr w ↦ subst (λ (z : ℕ). ClusterAgrees n i (back_in z (at b i)) (h.oldest i) (G i)) (sym (w.0 hi))
            (subst (ClusterAgrees n i (back_in stays (at b i)) (h.oldest i)) (sym w.2) (agrees_stays n i (at b i) (h.oldest i) (H i) (st.clusters.small i) (st.clusters.agree i hi)))
      ])

  round_none : (i : ℕ) → (at new i).round ≡ None
  round_none i =
      elim (cases_lt i n) [
        | inl l ↦ ap (λ (z : Cluster). z.round) (cluster_here i l) ∙ op.still i
        | inr l ↦ ap (λ (z : Cluster). z.round) (cluster_there i l) ∙ op.still i
      ]

  table_new : (i k : ℕ) → lookup new.store.table i k ≡ standing n G h.oldest i k
  table_new i k =
      elim (cases_lt i n) [
        | inl hi ↦ elim (cond_ways {A = ℕ} (ltb (place r i) k) 0 0) [
          | inl w ↦ (
              let lt = ltb-true (place r i) k w.0 in
              prune_drops change (λ j m. ltb (get_or ps j 0) m) b st.unique (count b) i k (let c = cn in omega arith) w.0
              (elim (standing_ways n H h.oldest i k) [
                | inl v ↦ inr ((st.clusters.agree i hi).kept_all k v.0.1 v.0.2)
                | inr v ↦ inl (st.table i k ∙ v.1)
              ])
              ∙ sym (elim (standing_ways n G h.oldest i k) [
                | inl v ↦ absurd (above i k hi lt v.0.2)
                | inr v ↦ v.1
              ]))
          | inr w ↦ (
              let le = ltb-false (place r i) k w.0 in
              prune-stays change (λ j m. ltb (get_or ps j 0) m) b (count b) i k (λ _ q. true≢false (sym q ∙ w.0))
              ∙ st.table i k ∙ same i k le)
        ]
        | inr hi ↦ prune-stays change (λ j m. ltb (get_or ps j 0) m) b (count b) i k (λ q _. (let c = cn in omega arith))
            ∙ st.table i k
            ∙ standing_same n H G h.oldest h.oldest i k (λ s. (let q = s.0 in absurd (omega arith))) (λ s. (let q = s.0 in absurd (omega arith))) (λ s. (let q = s.0 in absurd (omega arith)))
      ]
    where
      above : (i k : ℕ) → i < n → place r i < k → k ≤ number (G i) → ⊥
      above i k hi lt le =
          elim (place_ways i) [
            | inl w ↦ (let a : number (G i) ≡ number (back (place r i) (H i)) = ap number w.5 in let c = number-back (place r i) (H i) w.4 in omega arith)
            | inr w ↦ (let a = w.0 hi in let s = st.clusters.small i in let c = number-lower i in omega arith)
          ]

      same : (i k : ℕ) → k ≤ place r i → standing n H h.oldest i k ≡ standing n G h.oldest i k
      same i k le =
          elim (place_ways i) [
            | inl w ↦ (
                let a : number (G i) ≡ number (back (place r i) (H i)) = ap number w.5 in
                let c = number_back_is (place r i) (H i) w.4 in
                let d = w.4 in
                standing_same n H G h.oldest h.oldest i k
                (λ s. (s.0, s.1, omega arith)) (λ s. (s.0, s.1, omega arith))
                (λ s. ap (given k) w.5 ∙ given_back k (place r i) (H i) le))
            | inr w ↦ (
                let a : number (G i) ≡ number (H i) = ap number w.2 in
                standing_same n H G h.oldest h.oldest i k
                (λ s. (s.0, s.1, (let z = s.2 in omega arith))) (λ s. (s.0, s.1, (let z = s.2 in omega arith)))
                (λ s. ap (given k) w.2))
          ]

  pub resumed_state : State n nodes new g
  resumed_state =
      record {
        nodes_is = prune-nodes change (λ j m. ltb (get_or ps j 0) m) b (count b) ∙ st.nodes_is;
        few-nodes = st.few-nodes;
        clusters = record {
          count = prune-count change (λ j m. ltb (get_or ps j 0) m) b (count b) ∙ cn;
          few = st.clusters.few;
          agree = agree_new;
          small = λ i. (let a = number-lower i in let c = st.clusters.small i in omega arith);
          silent = λ k hk a. (
              let x = st.clusters.silent k hk a in
              let y = heard-back a (P k) (H k) in
              let z : heard a (G k) ≡ heard a (back (P k) (H k)) = ap (heard a) (goes_back k) in
              omega arith);
        };
        last = λ i. (let a = number-lower i in let c = st.last i in omega arith);
        sound = sound_cut H G h.oldest P st.sound final kept_at goes_back;
        clock = λ j e m. st.clock j e (in_back (P j) (H j) e (subst (λ (z : List Event). e ∈ z) (goes_back j) m));
        beyond = λ k hk. (
            let q = st.beyond k hk in
            (q.0, elim (place_ways k) [ inl w ↦ (let l = w.0 in absurd (omega arith)) | inr w ↦ w.2 ] ∙ q.1));
        logs = subst (λ (z : ℕ). Logs n G h.oldest h.sends (log_back ps b.log) z) (sym (prune-next change (λ j m. ltb (get_or ps j 0) m) b (count b)))
            (logs_cut n H G h.oldest h.sends b.log b.next_id st.logs st.sound st.clusters.small r goes_back held);
        rounds = λ i q e. (let z = round_none i in let y : ◌≡◌ {A = ℕ} 0 1 = cc in absurd (omega arith));
        few_kept = λ i. elim (cases_lt i n) [
          | inl l ↦ subst (λ (z : Cluster). length z.kept ≤ 16) (sym (cluster_here i l)) (let a = length_kept (λ k. leb k.number (place r i)) (at b i).kept in let c = st.few_kept i in omega arith)
          | inr l ↦ subst (λ (z : Cluster). length z.kept ≤ 16) (sym (cluster_there i l)) (st.few_kept i)
        ];
        table = table_new;
        unique = prune-unique change (λ j m. ltb (get_or ps j 0) m) b st.unique (count b);
        restart = tt;
        alerts = st.alerts;
      }
    where
      held : (j : ℕ) → j < n → h.oldest j ≤ P j
      held j hj =
          let a = st.sound.oldest_stands j in
          elim (place_ways j) [ inl w ↦ (let e = w.2 in let f = w.3 in omega arith) | inr w ↦ (let e = w.1 in omega arith) ]
