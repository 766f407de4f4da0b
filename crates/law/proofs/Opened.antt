-- A new federation agrees with the history that has checkpoint 1 with zeros at every cluster.
use Rattle.std.proofs.Common.{◌≡◌, ℕ, zero, suc, ◌<◌, ◌≤◌, Bool, true, false, cond, ltb, leb, List, [], ◌∷◌, length, get_or, replicate, is_some, Some, None, Option, sym, refl, ap, ◌∙◌, subst, inl, inr, arith, length-append, length-set, get_or-set_other, get_or-set_same}
use lib.ListN.{length-replicate, get_or-append, get_or-eq_default}
use lib.Seq.{get_or_at}
use Rattle.std.proofs.lemmas.Bool.{cases_eq, true≢false, leb-true, le-leb, lt-leb}
use Rattle.refusal.specs.declared.Refusal.{Refusal}
use Rattle.refusal.specs.declared.Refusal.TheVariants as refuses
use Rattle.refusal.specs.declared.StoreRefusal.{StoreRefusal}
use Rattle.refusal.specs.declared.StoreRefusal.TheVariants as store_refuses
use Rattle.refusal.specs.Answers.{unless_refused}
use Rattle.store.specs.Table.{Model, TableRow, lookup, insert, keep_refusal, with_table, words_fit, both}
use Rattle.law.specs.declared.Message.{Message}
use Rattle.law.specs.declared.Checkpoint.{Checkpoint}
use Rattle.law.specs.Book.{Cluster, at, nobody}
use Rattle.law.specs.Opening.{open_refusal, open_book, opens, is_empty, first_row, first_cluster, first_clusters, kept_first}
use Rattle.law.specs.Law.{standing, Unique}
use Rattle.law.specs.Events.{Lists, saved, sent, got, ◌∈◌, number, given}
use Rattle.law.specs.History.{new_told}
use Rattle.law.proofs.Lists.{cond_ways}
use Rattle.law.proofs.Sound.{Sound}
use Rattle.law.proofs.Kept.{ClusterAgrees, Row_is}
use Rattle.law.proofs.Rows.{unique-insert, insert_same, insert_other}
use Rattle.law.proofs.Tables.{Standing, standing_ways}
use Rattle.law.proofs.Logs.{Logs}
use Rattle.store.proofs.Orders.{both_true}
use Rattle.law.proofs.State.{State}
use Rattle.law.proofs.Adding.{keep_table}

pub first_count : (n : ℕ) → length (first_clusters n) ≡ n
first_count zero = refl
first_count (suc k) = length-append (first_clusters k) (first_cluster k ∷ []) ∙ (let a = first_count k in omega arith)

pub first_at : (n i : ℕ) → i < n → get_or (first_clusters n) i nobody ≡ first_cluster i
first_at zero i h = absurd (omega arith)
first_at (suc k) i h =
    elim (cases_eq i k) [
      | inl e ↦ get_or_at (first_clusters k) (first_cluster k) [] nobody i (first_count k ∙ sym e) ∙ ap first_cluster (sym e)
      | inr e ↦ get_or-append (first_clusters k) (first_cluster k ∷ []) nobody i (let a = first_count k in omega arith) ∙ first_at k i (omega arith)
    ]

zeros_at : (m k : ℕ) → get_or {A = ℕ} (replicate m 0) k 0 ≡ 0
zeros_at zero k = refl
zeros_at (suc m) zero = refl
zeros_at (suc m) (suc k) = zeros_at m k

first_row_is : (n i : ℕ) (ws : List ℕ) → n ≤ 8 → i < n → Row_is n i (first_row i) (saved 0 ws ∷ [])
first_row_is n i ws few hi =
    record {
      long = length-set (replicate 8 0) i 1;
      own = get_or-set_same (replicate 8 0) i 1 0 (omega arith);
      others = λ k hk ne. get_or-set_other (replicate 8 0) i k 1 0 ne ∙ zeros_at 8 k;
    }

first_agrees : (n i : ℕ) (ws : List ℕ) → n ≤ 8 → i < n → ClusterAgrees n i (first_cluster i) 1 (saved 0 ws ∷ [])
first_agrees n i ws few hi =
    record {
      live = first_row_is n i ws few hi;
      rising = ((λ k m. elim m [ ]), tt);
      kept_in = λ k m. elim m [
        | inl e ↦ subst (λ (z : Checkpoint). (1 ≤ z.number) × (z.number ≤ 1) × Row_is n i z.row (Rattle.law.specs.Events.back z.number (saved 0 ws ∷ []))) (sym e)
            (omega arith, omega arith, first_row_is n i ws few hi)
        | inr z ↦ elim z [ ]
      ];
      kept_all = λ p lo hi2. (record { number = 1; row = first_row i }, inl refl, omega arith);
    }

not-saved-sent : (t u : ℕ) (ws : List ℕ) (m : Message) → sent t m ≡ saved u ws → ⊥
not-saved-sent t u ws m e = let z : ◌≡◌ {A = ℕ} 0 1 = cc in omega arith

not-saved-got : (t u : ℕ) (ws : List ℕ) (m : Message) → got t m ≡ saved u ws → ⊥
not-saved-got t u ws m e = let z : ◌≡◌ {A = ℕ} 0 1 = cc in omega arith

module _ (nodes : ℕ) where
  abbrev H : Lists
  H = (new_told nodes).events

  abbrev ones : ℕ → ℕ
  ones = (new_told nodes).oldest

  no_sent : (i t : ℕ) (m : Message) → sent t m ∈ H i → ⊥
  no_sent i t m h = elim h [ inl e ↦ not-saved-sent t 0 (replicate nodes 0) m e | inr z ↦ elim z [ ] ]

  no_got : (i t : ℕ) (m : Message) → got t m ∈ H i → ⊥
  no_got i t m h = elim h [ inl e ↦ not-saved-got t 0 (replicate nodes 0) m e | inr z ↦ elim z [ ] ]

  first_sound : Sound H ones
  first_sound =
      record {
        messages = record {
          timed = λ i. ((λ e m. elim m [ ]), tt);
          sends = λ i t m R p. elim p [ inl q ↦ absurd (not-saved-sent t 0 (replicate nodes 0) m q.0) | inr z ↦ elim z [ ] ];
          gets = λ k u m h. absurd (no_got k u m h);
          crosses = λ i k t u m h g. absurd (no_got k u m g);
        };
        raises = λ k u m R p l. elim p [ inl q ↦ absurd (not-saved-got u 0 (replicate nodes 0) m q.0) | inr z ↦ elim z [ ] ];
        safe = λ f j x e a c. elim a [ inl q ↦ (let y = q.1 in absurd (omega arith)) | inr z ↦ elim z [ ] ];
        oldest_one = λ j. omega arith;
        oldest_stands = λ j. omega arith;
      }

  first_logs : (n : ℕ) → Logs n H ones (new_told nodes).sends [] 1
  first_logs n =
      record {
        stands = λ x a. elim a [ ];
        waiting = λ x a. elim a [ ];
        received = λ x r a. elim a [ ];
        kept = λ i t m h. absurd (no_sent i t m h);
        ids = tt;
        id_below = λ i t m h. absurd (no_sent i t m h);
        id_one = λ i k t u m l h. absurd (no_sent i t m h);
        told_right = λ x a. elim a [ ];
        proper = λ i t m h. absurd (no_sent i t m h);
        once = λ j k t u m h. absurd (no_got j t m h);
      }

  standing_alike : (n m i k : ℕ) → (Standing n H ones i k → Standing m H ones i k) → (Standing m H ones i k → Standing n H ones i k) → standing n H ones i k ≡ standing m H ones i k
  standing_alike n m i k to fro =
      elim (standing_ways n H ones i k) [
        | inl w ↦ elim (standing_ways m H ones i k) [ inl v ↦ w.1 ∙ sym v.1 | inr v ↦ absurd (v.0 (to w.0)) ]
        | inr w ↦ elim (standing_ways m H ones i k) [ inl v ↦ absurd (w.0 (fro v.0)) | inr v ↦ w.1 ∙ sym v.1 ]
      ]

  words_fit_lem : 1 ≤ nodes → nodes ≤ 32 → words_fit (length (replicate {A = ℕ} nodes 0)) ≡ true
  words_fit_lem lo hi =
      let l = length-replicate {A = ℕ} nodes 0 in
      ap (λ (z : Bool). Rattle.store.specs.Table.both z (leb (length (replicate {A = ℕ} nodes 0)) 32)) (le-leb 1 (length (replicate {A = ℕ} nodes 0)) (omega arith))
      ∙ le-leb (length (replicate {A = ℕ} nodes 0)) 32 (omega arith)

  length-insert : (new : TableRow) (t : List TableRow) → length (insert new t) ≡ suc (length t)
  length-insert new [] = refl
  length-insert new (row ∷ rows) =
      elim (cond_ways (Rattle.store.specs.Table.before new.cluster new.number row) (new ∷ row ∷ rows) (row ∷ insert new rows)) [
        | inl w ↦ ap length w.1
        | inr w ↦ ap length w.1 ∙ ap suc (length-insert new rows)
      ]

  -- the store after so many first checkpoints
  first_table : (store : Model) → store.table ≡ [] → 1 ≤ nodes → nodes ≤ 32 → (m : ℕ) → m ≤ store.capacity →
      ((i k : ℕ) → lookup (kept_first m nodes store).table i k ≡ standing m H ones i k) × Unique (kept_first m nodes store).table × (length (kept_first m nodes store).table ≡ m) × ((kept_first m nodes store).capacity ≡ store.capacity)
  first_table store none lo hi zero room = (
    (λ i k. ap (λ (z : List TableRow). lookup z i k) none ∙ elim (standing_ways 0 H ones i k) [ inl w ↦ (let a = w.0.0 in absurd (omega arith)) | inr w ↦ sym w.1 ]),
    subst Unique (sym none) tt,
    ap length none,
    refl,
  )
  first_table store none lo hi (suc m) room =
      let ih = first_table store none lo hi m (omega arith) in
      let s = kept_first m nodes store in
      let free : lookup s.table m 1 ≡ None = ih.0 m 1 ∙ elim (standing_ways m H ones m 1) [ inl w ↦ (let a = w.0.0 in absurd (omega arith)) | inr w ↦ w.1 ] in
      let size = ih.2 in
      let cap = ih.3 in
      let ok : keep_refusal s m 1 (replicate nodes 0) ≡ None =
      ap (λ (z : Bool). cond z (cond (is_some (lookup s.table m 1)) (Some store_refuses.Held) (cond (leb s.capacity (length s.table)) (Some (store_refuses.Full s.full)) None)) (Some store_refuses.WordCount)) (words_fit_lem lo hi)
      ∙ ap (λ (z : Option (List ℕ)). cond (is_some z) (Some store_refuses.Held) (cond (leb s.capacity (length s.table)) (Some (store_refuses.Full s.full)) None)) free
      ∙ ap (λ (z : Bool). cond z (Some (store_refuses.Full s.full)) None) (lt-leb s.capacity (length s.table) (omega arith)) in
      let is = keep_table s m 1 (replicate nodes 0) ok in (
        (λ i k. ap (λ (z : List TableRow). lookup z i k) is ∙ added s m ih.0 free i k),
        subst Unique (sym is) (unique-insert s.table m 1 (replicate nodes 0) free ih.1),
        ap length is ∙ length-insert (record { cluster = m; number = 1; words = replicate nodes 0 }) s.table ∙ ap suc size,
        ap (λ (z : Option StoreRefusal). (unless_refused z s (with_table s (insert (record { cluster = m; number = 1; words = replicate nodes 0 }) s.table))).capacity) ok ∙ cap,
      )
    where
      added : (s : Model) (m : ℕ) → ((i k : ℕ) → lookup s.table i k ≡ standing m H ones i k) → lookup s.table m 1 ≡ None →
          (i k : ℕ) → lookup (insert (record { cluster = m; number = 1; words = replicate nodes 0 }) s.table) i k ≡ standing (suc m) H ones i k
      added s m right free i k =
          elim (cases_eq i m) [
            | inl e ↦ elim (cases_eq k 1) [
              | inl f ↦ ap (λ (z : ℕ). lookup (insert (record { cluster = m; number = 1; words = replicate nodes 0 }) s.table) z k) e
                  ∙ ap (λ (z : ℕ). lookup (insert (record { cluster = m; number = 1; words = replicate nodes 0 }) s.table) m z) f
                  ∙ insert_same s.table m 1 (replicate nodes 0) free
                  ∙ sym (elim (standing_ways (suc m) H ones i k) [
                    | inl w ↦ w.1 ∙ ap (λ (z : ℕ). Some (given z (saved 0 (replicate nodes 0) ∷ []))) f
                    | inr w ↦ absurd (w.0 (omega arith, omega arith, omega arith))
                  ])
              | inr f ↦ insert_other s.table m 1 (replicate nodes 0) i k (λ _ q. f (sym q)) ∙ right i k
                  ∙ standing_alike m (suc m) i k (λ t. (let a = t.0 in absurd (omega arith))) (λ t. (let a = t.1 in let b = t.2 in absurd (f (omega arith))))
            ]
            | inr e ↦ insert_other s.table m 1 (replicate nodes 0) i k (λ q _. e (sym q)) ∙ right i k
                ∙ standing_alike m (suc m) i k (λ t. (let a = t.0 in (omega arith, t.1, t.2))) (λ t. (let a = t.0 in (omega arith, t.1, t.2)))
          ]

pub opened_state : (name n nodes : ℕ) (store : Model) → open_refusal n nodes store ≡ None → State n nodes (open_book name n nodes store) (new_told nodes)
opened_state name n nodes store ok =
    record {
      nodes_is = refl;
      few-nodes = ck.3;
      clusters = record {
        count = first_count n;
        few = ck.1;
        agree = λ i hi. subst (λ (z : Cluster). ClusterAgrees n i z 1 (saved 0 (replicate nodes 0) ∷ [])) (sym (first_at n i hi)) (first_agrees n i (replicate nodes 0) ck.1 hi);
        small = λ i. omega arith;
        silent = λ k hk a. refl;
      };
      last = λ i. omega arith;
      sound = first_sound nodes;
      clock = λ j e m. elim m [ inl q ↦ (let a : Rattle.law.proofs.Lists.time e ≡ 0 = ap Rattle.law.proofs.Lists.time q in omega arith) | inr z ↦ elim z [ ] ];
      beyond = λ k hk. (replicate nodes 0, refl);
      logs = first_logs nodes n;
      rounds = λ i r e. (let z : (at (open_book name n nodes store) i).round ≡ None = ap (λ (c : Cluster). c.round) (cluster_is i) ∙ quiet i in let y : ◌≡◌ {A = ℕ} 0 1 = cc in absurd (omega arith));
      few_kept = λ i. subst (λ (c : Cluster). length c.kept ≤ 16) (sym (cluster_is i)) (few i);
      table = tb.0;
      unique = tb.1;
      restart = tt;
      alerts = omega arith;
    }
  where
    ck : (2 ≤ n) × (n ≤ 8) × (1 ≤ nodes) × (nodes ≤ 32) × (store.table ≡ []) × (n ≤ store.capacity)
    ck =
        let p = opens-true (opens n nodes store) ok in
        let a = both_true (both (leb 2 n) (leb n 8)) _ p in
        let b = both_true (both (leb 1 nodes) (leb nodes 32)) _ a.1 in
        let c = both_true (is_empty store.table) (leb n store.capacity) b.1 in
        let d = both_true (leb 2 n) (leb n 8) a.0 in
        let e = both_true (leb 1 nodes) (leb nodes 32) b.0 in
        (leb-true 2 n d.0, leb-true n 8 d.1, leb-true 1 nodes e.0, leb-true nodes 32 e.1, empty store.table c.0, leb-true n store.capacity c.1)
      where
        opens-true : (t : Bool) → cond {A = Option Refusal} t None (Some refuses.BadOpen) ≡ None → t ≡ true
        opens-true true e = refl
        opens-true false e = let z : ◌≡◌ {A = ℕ} 0 1 = cc in absurd (omega arith)

        empty : (t : List TableRow) → is_empty t ≡ true → t ≡ []
        empty [] e = refl
        empty (x ∷ xs) e = absurd (true≢false (sym e))

    first_or_nobody : ℕ → Cluster
    first_or_nobody i = cond (ltb i n) (first_cluster i) nobody

    cluster_is : (i : ℕ) → at (open_book name n nodes store) i ≡ first_or_nobody i
    cluster_is i =
        elim (Rattle.law.proofs.Moves.ltb_ways i n (first_cluster i) nobody) [
          | inl w ↦ first_at n i w.0 ∙ sym w.1
          | inr w ↦ (let l = first_count n in let le : length (first_clusters n) ≤ i = (let q = w.0 in omega arith) in get_or-eq_default (first_clusters n) nobody le ∙ sym w.1)
        ]

    quiet : (i : ℕ) → (first_or_nobody i).round ≡ None
    quiet i =
        elim (Rattle.law.proofs.Moves.ltb_ways i n (first_cluster i) nobody) [
          | inl w ↦ ap (λ (c : Cluster). c.round) w.1
          | inr w ↦ ap (λ (c : Cluster). c.round) w.1
        ]

    few : (i : ℕ) → length (first_or_nobody i).kept ≤ 16
    few i =
        elim (Rattle.law.proofs.Moves.ltb_ways i n (first_cluster i) nobody) [
          | inl w ↦ subst (λ (c : Cluster). length c.kept ≤ 16) (sym w.1) (omega arith)
          | inr w ↦ subst (λ (c : Cluster). length c.kept ≤ 16) (sym w.1) (omega arith)
        ]

    tb : ((i k : ℕ) → lookup (kept_first n nodes store).table i k ≡ standing n (new_told nodes).events (new_told nodes).oldest i k) × Unique (kept_first n nodes store).table × (length (kept_first n nodes store).table ≡ n) × ((kept_first n nodes store).capacity ≡ store.capacity)
    tb = first_table nodes store ck.4 ck.2 ck.3 n ck.5
