-- Clusters changed one after another, each leaving the store without the checkpoints that it loses.
use Rattle.std.proofs.Common.{◌≡◌, ℕ, zero, suc, ◌<◌, ◌≤◌, Bool, true, ◌⊎◌, List, [], ◌∷◌, length, get_or, set, None, filter, sym, refl, ap, ◌∙◌, subst, inl, inr, arith, length-set, get_or-set_other}
use Rattle.std.proofs.lemmas.Bool.{cases_eq, cases_lt}
use Rattle.store.specs.Table.{lookup}
use Rattle.law.specs.declared.Checkpoint.{Checkpoint}
use Rattle.law.specs.Book.{Book, Cluster, at, nobody}
use Rattle.law.specs.Restarts.{prune}
use Rattle.law.specs.Law.{Among, Unique}
use Rattle.law.proofs.Lists.{cond_ways}
use Rattle.law.proofs.Kept.{Rising}
use Rattle.law.proofs.Among.{kept_among}
use Rattle.law.proofs.Rows.{discard-unique, discard_other, discard_none, discard-gone}
use Rattle.law.proofs.State.{set_here, set_there}

pub rising_kept : (p : Checkpoint → Bool) (cs : List Checkpoint) → Rising cs → Rising (filter p cs)
rising_kept p [] r = tt
rising_kept p (c ∷ cs) r =
    elim (cond_ways (p c) (c ∷ filter p cs) (filter p cs)) [
      | inl w ↦ subst Rising (sym w.1) ((λ k m. r.0 k (kept_among p cs k m).0), rising_kept p cs r.1)
      | inr w ↦ subst Rising (sym w.1) (rising_kept p cs r.1)
    ]

pub length_kept : {A : Type 0} (p : A → Bool) (xs : List A) → length (filter p xs) ≤ length xs
length_kept p [] = omega arith
length_kept p (x ∷ xs) =
    let a = length_kept p xs in
    elim (cond_ways (p x) (x ∷ filter p xs) (filter p xs)) [
      | inl w ↦ (let e : length (filter p (x ∷ xs)) ≡ suc (length (filter p xs)) = ap length w.1 in omega arith)
      | inr w ↦ (let e : length (filter p (x ∷ xs)) ≡ length (filter p xs) = ap length w.1 in omega arith)
    ]

module _ (change : ℕ → Cluster → Cluster) (gone : ℕ → ℕ → Bool) (b : Book) where
  abbrev pruned : ℕ → Book
  pruned k = prune change gone k b

  pub prune-count : (k : ℕ) → length (pruned k).clusters ≡ length b.clusters
  prune-count zero = refl
  prune-count (suc k) = length-set (pruned k).clusters k (change k (at (pruned k) k)) ∙ prune-count k

  pub prune-nodes : (k : ℕ) → (pruned k).nodes ≡ b.nodes
  prune-nodes zero = refl
  prune-nodes (suc k) = prune-nodes k

  pub prune-log : (k : ℕ) → (pruned k).log ≡ b.log
  prune-log zero = refl
  prune-log (suc k) = prune-log k

  pub prune-next : (k : ℕ) → (pruned k).next_id ≡ b.next_id
  prune-next zero = refl
  prune-next (suc k) = prune-next k

  pub prune-restart : (k : ℕ) → (pruned k).restart ≡ b.restart
  prune-restart zero = refl
  prune-restart (suc k) = prune-restart k

  pub prune_there : (k i : ℕ) → k ≤ i → at (pruned k) i ≡ at b i
  prune_there zero i h = refl
  prune_there (suc k) i h =
      elim (cases_lt k (length b.clusters)) [
        | inl l ↦ set_there (pruned k).clusters k (change k (at (pruned k) k)) (let e = prune-count k in omega arith) i (omega arith) ∙ prune_there k i (omega arith)
        | inr l ↦ set_there_out (pruned k).clusters k (change k (at (pruned k) k)) i (omega arith) ∙ prune_there k i (omega arith)
      ]
    where
      set_there_out : (cs : List Cluster) (k : ℕ) (c : Cluster) (i : ℕ) → (i ≡ k → ⊥) → get_or (set cs k c) i nobody ≡ get_or cs i nobody
      set_there_out cs k c i ne = get_or-set_other cs k i c nobody ne

  pub prune_here : (k i : ℕ) → i < k → i < length b.clusters → at (pruned k) i ≡ change i (at b i)
  prune_here zero i h l = absurd (omega arith)
  prune_here (suc k) i h l =
      elim (cases_eq i k) [
        | inl e ↦ (
            let c = prune-count k in
            ap (λ (z : ℕ). at (pruned (suc k)) z) e
            ∙ set_here (pruned k).clusters k (change k (at (pruned k) k)) (omega arith)
            ∙ ap (change k) (prune_there k k (omega arith))
            ∙ ap (λ (z : ℕ). change z (at b z)) (sym e))
        | inr e ↦ set_out (pruned k).clusters k (change k (at (pruned k) k)) i e ∙ prune_here k i (omega arith) l
      ]
    where
      set_out : (cs : List Cluster) (k : ℕ) (c : Cluster) (i : ℕ) → (i ≡ k → ⊥) → get_or (set cs k c) i nobody ≡ get_or cs i nobody
      set_out cs k c i ne = get_or-set_other cs k i c nobody ne

  pub prune-unique : Unique b.store.table → (k : ℕ) → Unique (pruned k).store.table
  prune-unique u zero = u
  prune-unique u (suc k) = discard-unique k (gone k) (at (pruned k) k).kept (pruned k).store (prune-unique u k)

  pub prune-stays : (k i j : ℕ) → (i < k → gone i j ≡ true → ⊥) → lookup (pruned k).store.table i j ≡ lookup b.store.table i j
  prune-stays zero i j h = refl
  prune-stays (suc k) i j h =
      discard_other k (gone k) (at (pruned k) k).kept (pruned k).store i j (λ e g. h (omega arith) (ap (λ (z : ℕ). gone z j) (sym e) ∙ g))
      ∙ prune-stays k i j (λ l. h (omega arith))

  pub prune_drops : Unique b.store.table → (k i j : ℕ) → i < k → gone i j ≡ true → (lookup b.store.table i j ≡ None) ⊎ ((c : Checkpoint) × Among c (at b i).kept × (c.number ≡ j)) →
      lookup (pruned k).store.table i j ≡ None
  prune_drops u zero i j l g h = absurd (omega arith)
  prune_drops u (suc k) i j l g h =
      elim (cases_eq i k) [
        | inl e ↦ elim h [
          | inl z ↦ discard_none k (gone k) (at (pruned k) k).kept (pruned k).store i j (prune-unique u k) (prune-stays k i j (λ q. absurd (omega arith)) ∙ z)
          | inr z ↦ (
              let c = z.0 in
              let m : Among c (at (pruned k) k).kept = subst (λ (w : Cluster). Among c w.kept) (ap (at b) e ∙ sym (prune_there k k (omega arith))) z.1 in
              let gc : gone k c.number ≡ true = ap (gone k) z.2 ∙ ap (λ (w : ℕ). gone w j) (sym e) ∙ g in
              ap (λ (w : ℕ). lookup (pruned (suc k)).store.table w j) e
              ∙ ap (λ (w : ℕ). lookup (pruned (suc k)).store.table k w) (sym z.2)
              ∙ discard-gone k (gone k) (at (pruned k) k).kept (pruned k).store c (prune-unique u k) m gc)
        ]
        | inr e ↦ discard_none k (gone k) (at (pruned k) k).kept (pruned k).store i j (prune-unique u k) (prune_drops u k i j (omega arith) g h)
      ]
