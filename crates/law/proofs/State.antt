-- The book and the history agree after every call: clusters, messages, open rounds, the table, and the open restart.
use Rattle.std.proofs.Common.{◌≡◌, ℕ, zero, suc, ◌+◌, ◌-◌, ◌*◌, ◌<◌, ◌≤◌, Bool, true, false, cond, List, [], ◌∷◌, length, get_or, set, is_some, Some, None, Option, sym, refl, ◌∙◌, subst, inl, inr, arith, get_or-set_other, get_or-set_same}
use Rattle.std.proofs.lemmas.Bool.{cases_eq, true≢false}
use Rattle.refusal.specs.declared.Refusal.{Refusal}
use Rattle.store.specs.Table.{lookup}
use Rattle.law.specs.declared.Logged.{Logged}
use Rattle.law.specs.declared.Round.{Round}
use Rattle.law.specs.declared.Restart.{Restart}
use Rattle.refusal.specs.Answers.{unless_refused, replied}
use Rattle.law.specs.Book.{Book, Cluster, at, nobody}
use Rattle.law.specs.Law.{Among, standing, Unique}
use Rattle.law.specs.Calls.{Call, Value}
use Rattle.law.specs.Events.{Event, Lists, saved, ◌∈◌, number}
use Rattle.law.specs.History.{Told, tell, accepted, put}
use Rattle.law.proofs.Lists.{time, eqb_ways}
use Rattle.law.proofs.Sound.{Sound}
use Rattle.law.proofs.Kept.{ClusterAgrees, Row_is, Rising}
use Rattle.law.proofs.Going.{Going, Clusters, places_of}
use Rattle.law.specs.Restarts.{alerts_in}
use Rattle.law.proofs.Drains.{Done}
use Rattle.law.proofs.Logs.{Logs}
use Rattle.law.proofs.Appends.{Grows}

-- an open round of cluster i
pub record RoundAgrees (log : List Logged) (words : ℕ → ℕ) (i top keeps : ℕ) (r : Round) : Type 0 where
  pub room : (top < 1000000) × (keeps < 16)
  pub waits_for : (id : ℕ) → r.waiting ≡ Some id → (x : Logged) × Among x log × (x.message.id ≡ id) × (x.receipt ≡ None) × (x.message.to ≡ i)
  pub long : length r.answers ≡ 32
  pub answered : (rank w : ℕ) → get_or r.answers rank None ≡ Some w → words rank ≡ w

abbrev pub sum_to : ℕ → (ℕ → ℕ) → ℕ
sum_to zero f = 0
sum_to (suc k) f = sum_to k f + f k

-- how often a cluster can still be called back: a failed one never
abbrev pub moves_left : ℕ → Told → Restart → ℕ → ℕ
moves_left n h r j = cond (h.failed j) 0 (places_of n r h.events j - h.oldest j)

-- the open restart
pub record Open (n : ℕ) (cs : List Cluster) (h : Told) (r : Restart) : Type 0 where
  pub going : Going n h.events h.oldest h.failed r
  pub same : (i : ℕ) → h.at_fault i ≡ h.events i
  pub still : (i : ℕ) → (get_or cs i nobody).round ≡ None
  pub settled : r.settled ≡ true → Done r
  -- one cluster failed
  pub single : (f g : ℕ) → h.failed f ≡ true → h.failed g ≡ true → f ≡ g
  -- the alerts taken, and those that the places and the waiting ones still allow
  pub spent : r.settled ≡ false → h.alerts + (n - 1) * sum_to n (moves_left n h r) + alerts_in r.waiting ≤ (n - 1) * (16 * n - 15)

abbrev pub RestartAgrees : ℕ → List Cluster → Told → Option Restart → Type 0
RestartAgrees n cs h None = Unit {0}
RestartAgrees n cs h (Some r) = Open n cs h r

pub record State (n nodes : ℕ) (b : Book) (h : Told) : Type 0 where
  pub nodes_is : b.nodes ≡ nodes
  pub few-nodes : nodes ≤ 32
  pub clusters : Clusters n b.clusters h.events h.oldest
  pub last : (i : ℕ) → number (h.events i) ≤ 1000000
  pub sound : Sound h.events h.oldest
  pub clock : (j : ℕ) (e : Event) → e ∈ h.events j → time e < h.clock
  pub beyond : (k : ℕ) → n ≤ k → (ws : List ℕ) × (h.events k ≡ saved 0 ws ∷ [])
  pub logs : Logs n h.events h.oldest h.sends b.log b.next_id
  pub rounds : (i : ℕ) (r : Round) → (at b i).round ≡ Some r → RoundAgrees b.log (h.words i) i (number (h.events i)) (length (at b i).kept) r
  pub few_kept : (i : ℕ) → length (at b i).kept ≤ 16
  pub table : (i k : ℕ) → lookup b.store.table i k ≡ standing n h.events h.oldest i k
  pub unique : Unique b.store.table
  pub restart : RestartAgrees n b.clusters h b.restart
  pub alerts : h.alerts ≤ (n - 1) * (16 * n - 15)

-- a refused call leaves both as they were
pub by_refusal : (Q : Book → Told → Type 0) (nodes : ℕ) (b : Book) (h : Told) (c : Call) (o : Option Refusal) (new : Book) (v : Value c) →
    Q b h → (o ≡ None → Q new (accepted nodes h c v)) → Q (unless_refused o b new) (tell nodes h c (replied o v))
by_refusal Q nodes b h c (Some why) new v old go = old
by_refusal Q nodes b h c None new v old go = go refl

-- the checks of a call that was accepted, one by one
pub passes : {A : Type 0} (t : Bool) (why : A) (rest : Option A) → cond t rest (Some why) ≡ None → (t ≡ true) × (rest ≡ None)
passes true why rest e = (refl, e)
passes false why rest e = let z : ◌≡◌ {A = ℕ} 0 1 = cc in absurd (omega arith)

pub escapes : {A : Type 0} (t : Bool) (why : A) (rest : Option A) → cond t (Some why) rest ≡ None → (t ≡ false) × (rest ≡ None)
escapes true why rest e = let z : ◌≡◌ {A = ℕ} 0 1 = cc in absurd (omega arith)
escapes false why rest e = (refl, e)

pub not_some : {A : Type 0} (o : Option A) → is_some o ≡ false → o ≡ None
not_some None e = refl
not_some (Some a) e = absurd (true≢false e)

-- one cluster put in the place of another
module _ (cs : List Cluster) (i : ℕ) (c : Cluster) (hi : i < length cs) where
  pub set_here : get_or (set cs i c) i nobody ≡ c
  set_here = get_or-set_same cs i c nobody hi

  pub set_there : (k : ℕ) → (k ≡ i → ⊥) → get_or (set cs i c) k nobody ≡ get_or cs k nobody
  set_there k ne = get_or-set_other cs i k c nobody ne

  -- what holds of every cluster holds after one changed
  pub set_all : (P : ℕ → Cluster → Type 0) → P i c → ((k : ℕ) → (k ≡ i → ⊥) → P k (get_or cs k nobody)) → (k : ℕ) → P k (get_or (set cs i c) k nobody)
  set_all P here there k =
      elim (cases_eq k i) [
        | inl e ↦ subst (λ (z : ℕ). P z (get_or (set cs i c) z nobody)) (sym e) (subst (P i) (sym set_here) here)
        | inr e ↦ subst (P k) (sym (set_there k e)) (there k e)
      ]

pub agrees_same : (n i : ℕ) (c d : Cluster) (o : ℕ) (L : List Event) → d.row ≡ c.row → d.kept ≡ c.kept → ClusterAgrees n i c o L → ClusterAgrees n i d o L
agrees_same n i c d o L er ek a =
    record {
      live = subst (λ (z : List ℕ). Row_is n i z L) (sym er) a.live;
      rising = subst Rising (sym ek) a.rising;
      kept_in = λ k m. a.kept_in k (subst (Among k) ek m);
      kept_all = λ p x y. (let q = a.kept_all p x y in (q.0, subst (Among q.0) (sym ek) q.1, q.2));
    }

-- where no cluster's row or kept checkpoints change
pub clusters_same : (n : ℕ) (cs ds : List Cluster) (H : Lists) (o : ℕ → ℕ) → length ds ≡ length cs → ((k : ℕ) → ((get_or ds k nobody).row ≡ (get_or cs k nobody).row) × ((get_or ds k nobody).kept ≡ (get_or cs k nobody).kept)) →
    Clusters n cs H o → Clusters n ds H o
clusters_same n cs ds H o len same cl =
    record {
      count = len ∙ cl.count;
      few = cl.few;
      agree = λ i hi. agrees_same n i (get_or cs i nobody) (get_or ds i nobody) (o i) (H i) (same i).0 (same i).1 (cl.agree i hi);
      small = cl.small;
      silent = cl.silent;
    }

-- the events after one more
pub grows_put : (H : Lists) (c : ℕ) (x : Event) → ((j : ℕ) (e : Event) → e ∈ H j → time e < time x) → Grows H (put H c (x ∷ H c)) c x
grows_put H c x newest =
    record {
      here = elim (eqb_ways c c (x ∷ H c) (H c)) [ inl w ↦ w.1 | inr w ↦ absurd (w.0 refl) ];
      there = λ j ne. elim (eqb_ways j c (x ∷ H c) (H j)) [ inl w ↦ absurd (ne w.0) | inr w ↦ w.1 ];
      newest = newest;
    }
