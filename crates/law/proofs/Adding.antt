-- A send, a delivery and a checkpoint each add one event, and the book and the history go on agreeing.
use Rattle.std.proofs.Common.{◌≡◌, ℕ, suc, ◌+◌, ◌<◌, ◌≤◌, eqb, ltb, List, [], ◌∷◌, ◌++◌, map, length, get_or, set, is_some, Some, None, Option, sym, refl, ap, ◌∙◌, subst, inl, inr, arith, length-append, length-set, get_or-set_other, get_or-set_same}
use Rattle.std.specs.List.{range_with_len}
use Rattle.std.proofs.lemmas.Bool.{cases_eq, cases_lt, ltb-true, eqb-false}
use Rattle.refusal.specs.declared.Refusal.TheVariants as refuses
use Rattle.refusal.specs.declared.StoreRefusal.{StoreRefusal}
use Rattle.refusal.specs.Answers.{unless_refused}
use Rattle.store.specs.Table.{Model, TableRow, lookup, insert, keep_refusal, keep_model, with_table, both}
use Rattle.law.specs.declared.Message.{Message}
use Rattle.law.specs.declared.Logged.{Logged}
use Rattle.law.specs.declared.Checkpoint.{Checkpoint}
use Rattle.law.specs.declared.Round.{Round}
use Rattle.law.specs.Book.{Book, Cluster, at, count, nobody, entry, raised, number as number_in, stays}
use Rattle.law.specs.Messages.{send_refusal, sent as sent_in, deliver, receive}
use Rattle.law.specs.Rounds.{saved as saved_in, keeps}
use Rattle.law.specs.Law.{Among, Unique}
use Rattle.law.specs.Events.{Event, Lists, saved, sent, got, ◌∈◌, back, number, saves, heard, brings}
use Rattle.law.specs.History.{Told, add, tell_sent, tell_saved, put}
use Rattle.law.proofs.Lists.{time, eqb_ways, back_ways}
use Rattle.law.proofs.Facts.{Fresh}
use Rattle.law.proofs.Appends.{Grows, Fits, sound_more, in_split}
use Rattle.law.proofs.Moves.{ltb_ways}
use Rattle.law.proofs.Kept.{ClusterAgrees, Row_is, Rising}
use Rattle.law.proofs.Going.{Clusters}
use Rattle.law.proofs.Among.{among_left, among_right, among_append, among_map}
use Rattle.law.proofs.LogSteps.{logs_saved, logs_sent, logs_got}
use Rattle.law.proofs.Rows.{unique-insert}
use Rattle.law.proofs.Tables.{standing_quiet, standing-saved, standing_ways}
use Rattle.store.proofs.Orders.{both_true}
use Rattle.law.proofs.State.{State, RoundAgrees, passes, escapes, not_some, set_all, set_here, set_there, grows_put}
use Rattle.law.proofs.Quiet.{restart_none}

-- a row stays right over an event that brings nothing to it
pub row_quiet : (n i : ℕ) (row : List ℕ) (x : Event) (L : List Event) → saves x ≡ 0 → ((k : ℕ) → brings k x ≡ 0) → Row_is n i row L → Row_is n i row (x ∷ L)
row_quiet n i row x L s b r =
    record { long = r.long; own = (let a = r.own in omega arith); others = λ k hk ne. (let a = r.others k hk ne in let c = b k in omega arith) }

pub back_below : (p : ℕ) (x : Event) (L : List Event) → p ≤ number L → back p (x ∷ L) ≡ back p L
back_below p x L h = elim (back_ways p x L) [ inl w ↦ w.1 | inr w ↦ (let a = w.0 in absurd (omega arith)) ]

-- a cluster with the row that an event leaves, and the checkpoints as they were
pub agrees_more : (n i : ℕ) (c d : Cluster) (o : ℕ) (x : Event) (L : List Event) → saves x ≡ 0 → d.kept ≡ c.kept → Row_is n i d.row (x ∷ L) → ClusterAgrees n i c o L → ClusterAgrees n i d o (x ∷ L)
agrees_more n i c d o x L s ek live a =
    record {
      live = live;
      rising = subst Rising (sym ek) a.rising;
      kept_in = λ k m. (
          let q = a.kept_in k (subst (Among k) ek m) in
          let top = q.1 in
          (q.0, omega arith, subst (Row_is n i k.row) (sym (back_below k.number x L top)) q.2));
      kept_all = λ p lo hi. (let q = a.kept_all p lo (omega arith) in (q.0, subst (Among q.0) (sym ek) q.1, q.2));
    }

module _ (H : Lists) (c : ℕ) (x : Event) (newest : (j : ℕ) (e : Event) → e ∈ H j → time e < time x) where
  abbrev G : Lists
  G = put H c (x ∷ H c)

  abbrev gr : Grows H G c x
  gr = grows_put H c x newest

  pub number_quiet : saves x ≡ 0 → (k : ℕ) → number (G k) ≡ number (H k)
  number_quiet s k =
      elim (cases_eq k c) [
        | inl e ↦ (
            let a : number (G k) ≡ saves x + number (H c) = ap number (ap G e ∙ gr.here) in
            let b : number (H k) ≡ number (H c) = ap (λ (z : ℕ). number (H z)) e in
            omega arith)
        | inr e ↦ ap number (gr.there k e)
      ]

  pub clock_more : (t : ℕ) → time x ≡ t → ((j : ℕ) (e : Event) → e ∈ H j → time e < t) → (j : ℕ) (e : Event) → e ∈ G j → time e < suc t
  clock_more t tx old j e h =
      elim (in_split H G c x gr j e h) [
        | inl a ↦ (let b : time e ≡ time x = ap time a.1 in omega arith)
        | inr a ↦ (let b = old j e a in omega arith)
      ]

  -- clusters of which one has the new event
  pub clusters_more : (n : ℕ) (cs ds : List Cluster) (o : ℕ → ℕ) → c < n → length ds ≡ length cs → Clusters n cs H o →
      ClusterAgrees n c (get_or ds c nobody) (o c) (x ∷ H c) → ((k : ℕ) → (k ≡ c → ⊥) → get_or ds k nobody ≡ get_or cs k nobody) → number (x ∷ H c) < stays → Clusters n ds G o
  clusters_more n cs ds o hc len cl here there top =
      record {
        count = len ∙ cl.count;
        few = cl.few;
        agree = λ k hk. elim (cases_eq k c) [
          | inl e ↦ subst (λ (z : ℕ). ClusterAgrees n z (get_or ds z nobody) (o z) (G z)) (sym e) (subst (ClusterAgrees n c (get_or ds c nobody) (o c)) (sym gr.here) here)
          | inr e ↦ subst (ClusterAgrees n k (get_or ds k nobody) (o k)) (sym (gr.there k e)) (subst (λ (z : Cluster). ClusterAgrees n k z (o k) (H k)) (sym (there k e)) (cl.agree k hk))
        ];
        small = λ k. elim (cases_eq k c) [
          | inl e ↦ subst (λ (z : ℕ). number (G z) < stays) (sym e) (subst (λ (z : List Event). number z < stays) (sym gr.here) top)
          | inr e ↦ subst (λ (z : List Event). number z < stays) (sym (gr.there k e)) (cl.small k)
        ];
        silent = λ k hk a. ap (heard a) (gr.there k (λ e. (omega arith))) ∙ cl.silent k hk a;
      }

send_checks : (b : Book) (i j : ℕ) → send_refusal b i j ≡ None → (i < count b) × (j < count b) × (i ≡ j → ⊥) × (b.restart ≡ None)
send_checks b i j ok =
    let p1 = passes (both (ltb i (count b)) (ltb j (count b))) refuses.NoCluster _ ok in
    let p2 = escapes (eqb i j) refuses.SameCluster _ p1.1 in
    let p3 = escapes (is_some b.restart) refuses.RestartOpen _ p2.1 in
    let bt = both_true (ltb i (count b)) (ltb j (count b)) p1.0 in
    (ltb-true i (count b) bt.0, ltb-true j (count b) bt.1, eqb-false i j p2.0, not_some b.restart p3.0)

-- a send
pub send_state : (n nodes : ℕ) (b : Book) (h : Told) → State n nodes b h → (i j w : ℕ) → send_refusal b i j ≡ None →
    State n nodes (sent_in b i j w) (tell_sent h (record { id = b.next_id; from = i; to = j; word = w; number = number_in b i }))
send_state n nodes b h st i j w ok =
    record {
      nodes_is = st.nodes_is;
      few-nodes = st.few-nodes;
      clusters = clusters_more H i x newest n b.clusters b.clusters h.oldest hi refl st.clusters
          (agrees_more n i (at b i) (at b i) (h.oldest i) x (H i) refl refl (row_quiet n i (at b i).row x (H i) refl (λ k. refl) agi.live) agi)
          (λ k ne. refl) (let s = st.clusters.small i in omega arith);
      last = λ k. (let a = number_quiet H i x newest refl k in let c = st.last k in omega arith);
      sound = sound_more H G i x gr h.oldest st.sound fits;
      clock = clock_more H i x newest h.clock refl st.clock;
      beyond = λ k hk. (let q = st.beyond k hk in (q.0, gr.there k (λ e. (let p = hi in omega arith)) ∙ q.1));
      logs = logs_sent H G i x gr n h.oldest h.sends b.log b.next_id st.logs h.clock m refl refl (hi, hj, (λ e. ne (sym e))) refl st.sound;
      rounds = λ k r e. (
          let q = st.rounds k r e in
          record {
            room = (let a = number_quiet H i x newest refl k in let z = q.room.0 in let y = q.room.1 in (omega arith, y));
            waits_for = λ id f. (let p = q.waits_for id f in (p.0, among_left b.log _ p.0 p.1, p.2, p.3, p.4));
            long = q.long;
            answered = q.answered;
          });
      few_kept = st.few_kept;
      table = λ a k. st.table a k ∙ standing_quiet n H G h.oldest i x gr refl a k;
      unique = st.unique;
      restart = restart_none n b.clusters (tell_sent h m) b.restart ck.3;
      alerts = st.alerts;
    }
  where
    ck : (i < count b) × (j < count b) × (i ≡ j → ⊥) × (b.restart ≡ None)
    ck = send_checks b i j ok

    hi : i < n
    hi = let a = ck.0 in let c = st.clusters.count in omega arith

    hj : j < n
    hj = let a = ck.1 in let c = st.clusters.count in omega arith

    ne : i ≡ j → ⊥
    ne = ck.2

    m : Message
    m = record { id = b.next_id; from = i; to = j; word = w; number = number_in b i }

    H : Lists
    H = h.events

    x : Event
    x = sent h.clock m

    newest : (j : ℕ) (e : Event) → e ∈ H j → time e < time x
    newest = st.clock

    G : Lists
    G = put H i (x ∷ H i)

    gr : Grows H G i x
    gr = grows_put H i x newest

    agi : ClusterAgrees n i (at b i) (h.oldest i) (H i)
    agi = st.clusters.agree i hi

    never : (k u : ℕ) → got u m ∈ H k → ⊥
    never k u g =
        let d = (st.sound.messages.gets k u m g).2 in
        let q = st.logs.id_below m.from d.0 m d.1 in
        omega arith

    fits : Fits H i x
    fits =
        record {
          sends = λ t l e. (
              let s : m ≡ l = cc in (
                sym (ap (λ (z : Message). z.from) s),
                sym (ap (λ (z : Message). z.number) s) ∙ agi.live.own,
                (λ k u g. never k u (subst (λ (z : Message). got u z ∈ H k) (sym s) g)),
              ));
          gets = λ u l e. (let z : ◌≡◌ {A = ℕ} 0 1 = cc in absurd (omega arith));
          raises = λ u l e _. (let z : ◌≡◌ {A = ℕ} 0 1 = cc in absurd (omega arith));
        }

-- the row after a delivery
pub row-raised : (n i : ℕ) (row : List ℕ) (t : ℕ) (m : Message) (L : List Event) → n ≤ 8 → m.from < n → (m.from ≡ i → ⊥) → Row_is n i row L → Row_is n i (raised row m.from m.number) (got t m ∷ L)
row-raised n i row t m L few hf nf r =
    elim (ltb_ways (entry row m.from) m.number (set row m.from m.number) row) [
      | inl w ↦ subst (λ (z : List ℕ). Row_is n i z (got t m ∷ L)) (sym w.1) (
          record {
            long = length-set row m.from m.number ∙ r.long;
            own = get_or-set_other row m.from i m.number 0 (λ e. nf (sym e)) ∙ (let a = r.own in omega arith);
            others = λ k hk ne. elim (cases_eq k m.from) [
              | inl e ↦ (
                  let a : entry (set row m.from m.number) k ≡ m.number = ap (entry (set row m.from m.number)) e ∙ get_or-set_same row m.from m.number 0 (let l = r.long in omega arith) in
                  let b = brings_from k (sym e) in
                  let c : entry row m.from ≡ heard k L = ap (entry row) (sym e) ∙ r.others k hk ne in
                  let d = w.0 in
                  omega arith)
              | inr e ↦ (
                  let a = get_or-set_other row m.from k m.number 0 e in
                  let b = r.others k hk ne in
                  let c = brings-not k (λ q. e (sym q)) in
                  omega arith)
            ];
          })
      | inr w ↦ subst (λ (z : List ℕ). Row_is n i z (got t m ∷ L)) (sym w.1) (
          record {
            long = r.long;
            own = (let a = r.own in omega arith);
            others = λ k hk ne. elim (cases_eq k m.from) [
              | inl e ↦ (
                  let a = r.others k hk ne in
                  let b = brings_from k (sym e) in
                  let c : entry row m.from ≡ heard k L = ap (entry row) (sym e) ∙ a in
                  let d = w.0 in
                  omega arith)
              | inr e ↦ (
                  let b = r.others k hk ne in
                  let c = brings-not k (λ q. e (sym q)) in
                  omega arith)
            ];
          })
    ]
  where
    brings_from : (k : ℕ) → m.from ≡ k → brings k (got t m) ≡ m.number
    brings_from k e = elim (eqb_ways m.from k m.number 0) [ inl w ↦ w.1 | inr w ↦ absurd (w.0 e) ]

    brings-not : (k : ℕ) → (m.from ≡ k → ⊥) → brings k (got t m) ≡ 0
    brings-not k e = elim (eqb_ways m.from k m.number 0) [ inl w ↦ absurd (e w.0) | inr w ↦ w.1 ]

-- a delivery of a message that is in the log, undelivered, to a cluster without a round
pub deliver_state : (n nodes : ℕ) (b : Book) (h : Told) → State n nodes b h → (y : Logged) → Among y b.log → y.receipt ≡ None → (at b y.message.to).round ≡ None → b.restart ≡ None →
    (heard y.message.from (h.events y.message.to) < y.message.number → Fresh (h.events y.message.to)) →
    State n nodes (deliver b y.message) (add h y.message.to (got h.clock y.message))
deliver_state n nodes b h st y ya yn quiet none fresh =
    record {
      nodes_is = st.nodes_is;
      few-nodes = st.few-nodes;
      clusters = clusters_more H c x newest n b.clusters (set b.clusters c new) h.oldest hc (length-set b.clusters c new) st.clusters
          (subst (λ (z : Cluster). ClusterAgrees n c z (h.oldest c) (x ∷ H c)) (sym (set_here b.clusters c new hl))
          (agrees_more n c (at b c) new (h.oldest c) x (H c) refl refl (row-raised n c (at b c).row h.clock m (H c) st.clusters.few hf nf agc.live) agc))
          (set_there b.clusters c new hl) (let s = st.clusters.small c in omega arith);
      last = λ k. (let a = number_quiet H c x newest refl k in let z = st.last k in omega arith);
      sound = sound_more H G c x gr h.oldest st.sound fits;
      clock = clock_more H c x newest h.clock refl st.clock;
      beyond = λ k hk. (let q = st.beyond k hk in (q.0, gr.there k (λ e. (let p = hc in omega arith)) ∙ q.1));
      logs = logs_got H G c x gr n h.oldest h.sends b.log b.next_id st.logs h.clock y refl ya yn refl (number_in b c) (sym agc.live.own);
      rounds = set_all b.clusters c new hl (λ k d. (r : Round) → d.round ≡ Some r → RoundAgrees (deliver b m).log (h.words k) k (number (G k)) (length d.kept) r)
          (λ r e. (let q = quiet in let z : ◌≡◌ {A = ℕ} 0 1 = cc in absurd (omega arith)))
          (λ k ne r e. (
          let q = st.rounds k r e in
          record {
            room = (let a = number_quiet H c x newest refl k in let z = q.room.0 in let v = q.room.1 in (omega arith, v));
            waits_for = λ id f. (
                let p = q.waits_for id f in
                let other : p.0.message.id ≡ m.id → ⊥ = λ e2. ne (sym p.4 ∙ ap (λ (z : Message). z.to) (one p.0 p.1 e2)) in
                let same : receive m.id (number_in b c) p.0 ≡ p.0 = elim (eqb_ways p.0.message.id m.id (record { message = p.0.message; receipt = Some (number_in b c) }) p.0) [ inl w ↦ absurd (other w.0) | inr w ↦ w.1 ] in
                (p.0, subst (λ (z : Logged). Among z (deliver b m).log) same (among_map (receive m.id (number_in b c)) b.log p.0 p.1), p.2, p.3, p.4));
            long = q.long;
            answered = q.answered;
          }));
      few_kept = set_all b.clusters c new hl (λ k d. length d.kept ≤ 16) (st.few_kept c) (λ k ne. st.few_kept k);
      table = λ a k. st.table a k ∙ standing_quiet n H G h.oldest c x gr refl a k;
      unique = st.unique;
      restart = restart_none n (set b.clusters c new) (add h c x) b.restart none;
      alerts = st.alerts;
    }
  where
    m : Message
    m = y.message

    c : ℕ
    c = m.to

    H : Lists
    H = h.events

    x : Event
    x = got h.clock m

    newest : (j : ℕ) (e : Event) → e ∈ H j → time e < time x
    newest = st.clock

    G : Lists
    G = put H c (x ∷ H c)

    gr : Grows H G c x
    gr = grows_put H c x newest

    sd : (t : ℕ) × (sent t m ∈ H m.from)
    sd = st.logs.stands y ya

    pr : (m.from < n) × (m.to < n) × (m.to ≡ m.from → ⊥)
    pr = st.logs.proper m.from sd.0 m sd.1

    hf : m.from < n
    hf = pr.0

    hc : c < n
    hc = pr.1

    nf : m.from ≡ c → ⊥
    nf e = pr.2 (sym e)

    hl : c < length b.clusters
    hl = let a = hc in let z = st.clusters.count in omega arith

    agc : ClusterAgrees n c (at b c) (h.oldest c) (H c)
    agc = st.clusters.agree c hc

    new : Cluster
    new = record { row = raised (at b c).row m.from m.number; kept = (at b c).kept; round = (at b c).round }

    one : (z : Logged) → Among z b.log → z.message.id ≡ m.id → z.message ≡ m
    one z a e = sym (st.logs.told_right z a) ∙ ap h.sends e ∙ st.logs.told_right y ya

    fits : Fits H c x
    fits =
        record {
          sends = λ t l e. (let z : ◌≡◌ {A = ℕ} 0 1 = cc in absurd (omega arith));
          gets = λ u l e. (
              let s : m ≡ l = cc in
              subst (λ (z : Message). (z.to ≡ c) × (z.from ≡ c → ⊥) × ((t : ℕ) × (sent t z ∈ H z.from))) s (refl, nf, sd));
          raises = λ u l e lt. (
              let s : l ≡ m = cc in
              fresh (subst (λ (z : Message). heard z.from (H c) < z.number) s lt));
        }

pub keep_table : (m : Model) (c k : ℕ) (ws : List ℕ) → keep_refusal m c k ws ≡ None → (keep_model m c k ws).table ≡ insert (record { cluster = c; number = k; words = ws }) m.table
keep_table m c k ws e = ap (λ (z : Option StoreRefusal). (unless_refused z m (with_table m (insert (record { cluster = c; number = k; words = ws }) m.table))).table) e

-- a checkpoint: the cluster after it
pub agrees_saved : (n i : ℕ) (c : Cluster) (o t : ℕ) (ws : List ℕ) (L : List Event) → n ≤ 8 → i < n → o ≤ number L → ClusterAgrees n i c o L → ClusterAgrees n i (saved_in i c) o (saved t ws ∷ L)
agrees_saved n i c o t ws L few hi ho a =
    record {
      live = live;
      rising = rising_push c.kept new a.rising (λ k m. let q = (a.kept_in k m).1 in let w = own in omega arith);
      kept_in = λ k m. elim (among_append c.kept (new ∷ []) k m) [
        | inl z ↦ (let q = a.kept_in k z in let top = q.1 in (q.0, omega arith, subst (Row_is n i k.row) (sym (back_below k.number (saved t ws) L top)) q.2))
        | inr z ↦ elim z [
          | inl e ↦ subst (λ (v : Checkpoint). (o ≤ v.number) × (v.number ≤ number (saved t ws ∷ L)) × Row_is n i v.row (back v.number (saved t ws ∷ L))) (sym e)
              ((let w = own in omega arith), (let w = own in omega arith), subst (Row_is n i row) (sym (back_stays_top)) live)
          | inr v ↦ elim v [ ]
        ]
      ];
      kept_all = λ p lo hi2. elim (cases_lt (number L) p) [
        | inl z ↦ (new, among_right c.kept (new ∷ []) new (inl refl), (let w = own in omega arith))
        | inr z ↦ (let q = a.kept_all p lo z in (q.0, among_left c.kept (new ∷ []) q.0 q.1, q.2))
      ];
    }
  where
    own : entry c.row i ≡ number L
    own = a.live.own

    row : List ℕ
    row = set c.row i (suc (entry c.row i))

    new : Checkpoint
    new = record { number = suc (entry c.row i); row = row }

    live : Row_is n i row (saved t ws ∷ L)
    live =
        record {
          long = length-set c.row i (suc (entry c.row i)) ∙ a.live.long;
          own = get_or-set_same c.row i (suc (entry c.row i)) 0 (let l = a.live.long in omega arith) ∙ (let w = own in omega arith);
          others = λ k hk ne. get_or-set_other c.row i k (suc (entry c.row i)) 0 ne ∙ (let w = a.live.others k hk ne in omega arith);
        }

    back_stays_top : back (suc (entry c.row i)) (saved t ws ∷ L) ≡ saved t ws ∷ L
    back_stays_top = elim (back_ways (suc (entry c.row i)) (saved t ws) L) [ inl w ↦ (let x = w.0 in let y = own in absurd (omega arith)) | inr w ↦ w.1 ]

    rising_push : (ks : List Checkpoint) (d : Checkpoint) → Rising ks → ((k : Checkpoint) → Among k ks → k.number < d.number) → Rising (ks ++ (d ∷ []))
    rising_push [] d r low = ((λ k m. elim m [ ]), tt)
    rising_push (k ∷ ks) d r low = (
      (λ z m. elim (among_append ks (d ∷ []) z m) [
        | inl v ↦ r.0 z v
        | inr v ↦ elim v [ inl e ↦ subst (λ (u : Checkpoint). k.number < u.number) (sym e) (low k (inl refl)) | inr u ↦ elim u [ ] ]
      ]),
      rising_push ks d r.1 (λ z m. low z (inr m)),
    )

-- the last answer of a round: the words are kept, and the checkpoint is saved
pub save_state : (n nodes : ℕ) (b : Book) (h : Told) → State n nodes b h → (i : ℕ) (r : Round) → i < n → (at b i).round ≡ Some r → (ws : List ℕ) → ws ≡ map (h.words i) (range_with_len 0 nodes) →
    keep_refusal b.store i (suc (number_in b i)) ws ≡ None → b.restart ≡ None → State n nodes (keeps b i ws) (tell_saved nodes h i)
save_state n nodes b h st i r hi round ws wis ok none =
    record {
      nodes_is = st.nodes_is;
      few-nodes = st.few-nodes;
      clusters = clusters_more H i x newest n b.clusters (set b.clusters i new) h.oldest hi (length-set b.clusters i new) st.clusters
          (subst (λ (z : Cluster). ClusterAgrees n i z (h.oldest i) (x ∷ H i)) (sym (set_here b.clusters i new hl))
          (agrees_saved n i (at b i) (h.oldest i) h.clock words (H i) st.clusters.few hi (st.sound.oldest_stands i) agi))
          (set_there b.clusters i new hl) (let a = rd.room.0 in omega arith);
      last = λ k. elim (cases_eq k i) [
        | inl e ↦ (let a : number (G k) ≡ suc (number (H i)) = ap (λ (z : ℕ). number (G z)) e ∙ top in let z = rd.room.0 in omega arith)
        | inr e ↦ (let a : number (G k) ≡ number (H k) = ap number (gr.there k e) in let z = st.last k in omega arith)
      ];
      sound = sound_more H G i x gr h.oldest st.sound fits;
      clock = clock_more H i x newest h.clock refl st.clock;
      beyond = λ k hk. (let q = st.beyond k hk in (q.0, gr.there k (λ e. (omega arith)) ∙ q.1));
      logs = logs_saved H G i x gr n h.oldest h.sends b.log b.next_id st.logs (λ t l e. (let z : ◌≡◌ {A = ℕ} 0 1 = cc in omega arith)) (λ t l e. (let z : ◌≡◌ {A = ℕ} 0 1 = cc in omega arith));
      rounds = set_all b.clusters i new hl (λ k d. (r : Round) → d.round ≡ Some r → RoundAgrees b.log (h.words k) k (number (G k)) (length d.kept) r)
          (λ q e. (let z : ◌≡◌ {A = ℕ} 0 1 = cc in absurd (omega arith)))
          (λ k ne q e. (
          let p = st.rounds k q e in
          record {
            room = (let a : number (G k) ≡ number (H k) = ap number (gr.there k ne) in let z = p.room.0 in let v = p.room.1 in (omega arith, v));
            waits_for = p.waits_for;
            long = p.long;
            answered = p.answered;
          }));
      few_kept = set_all b.clusters i new hl (λ k d. length d.kept ≤ 16)
          (let a = length-append (at b i).kept (record { number = suc (number_in b i); row = set (at b i).row i (suc (number_in b i)) } ∷ []) in let z = rd.room.1 in omega arith)
          (λ k ne. st.few_kept k);
      table = λ a k. ap (λ (z : List TableRow). lookup z a k) table_is ∙ standing-saved n H G h.oldest i x gr h.clock ws (ap (λ (z : List ℕ). saved h.clock z) (sym wis)) hi (st.sound.oldest_stands i) b.store.table st.table a k;
      unique = subst Unique (sym table_is) (unique-insert b.store.table i (suc (number (H i))) ws free st.unique);
      restart = restart_none n (set b.clusters i new) (tell_saved nodes h i) b.restart none;
      alerts = st.alerts;
    }
  where
    words : List ℕ
    words = map (h.words i) (range_with_len 0 nodes)

    H : Lists
    H = h.events

    x : Event
    x = saved h.clock words

    newest : (j : ℕ) (e : Event) → e ∈ H j → time e < time x
    newest = st.clock

    G : Lists
    G = put H i (x ∷ H i)

    gr : Grows H G i x
    gr = grows_put H i x newest

    hl : i < length b.clusters
    hl = let z = st.clusters.count in omega arith

    agi : ClusterAgrees n i (at b i) (h.oldest i) (H i)
    agi = st.clusters.agree i hi

    new : Cluster
    new = saved_in i (at b i)

    rd : RoundAgrees b.log (h.words i) i (number (H i)) (length (at b i).kept) r
    rd = st.rounds i r round

    top : number (G i) ≡ suc (number (H i))
    top = ap number gr.here ∙ omega arith

    table_is : (keep_model b.store i (suc (number_in b i)) ws).table ≡ insert (record { cluster = i; number = suc (number (H i)); words = ws }) b.store.table
    table_is = keep_table b.store i (suc (number_in b i)) ws ok ∙ ap (λ (z : ℕ). insert (record { cluster = i; number = suc z; words = ws }) b.store.table) agi.live.own

    free : lookup b.store.table i (suc (number (H i))) ≡ None
    free =
        st.table i (suc (number (H i)))
        ∙ elim (standing_ways n H h.oldest i (suc (number (H i)))) [ inl w ↦ (let a = w.0.2 in absurd (omega arith)) | inr w ↦ w.1 ]

    fits : Fits H i x
    fits =
        record {
          sends = λ t l e. (let z : ◌≡◌ {A = ℕ} 0 1 = cc in absurd (omega arith));
          gets = λ u l e. (let z : ◌≡◌ {A = ℕ} 0 1 = cc in absurd (omega arith));
          raises = λ u l e _. (let z : ◌≡◌ {A = ℕ} 0 1 = cc in absurd (omega arith));
        }
