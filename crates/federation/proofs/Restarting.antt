-- What an accepted fault, alert or trial has shown, what an accepted call makes of the open restart, and that the test of a
-- book does not look at its restart.
use Rattle.std.proofs.Common.{◌≡◌, ℕ, ◌+◌, ◌<◌, ◌≤◌, Bool, ltb, leb, List, length, replicate, is_some, Some, None, Ok, vec_items, vec_len, Option, sym, ap, ◌∙◌, ap₂, add-one, arith}
use Rattle.std.proofs.lemmas.List.{get_or-set_same}
use Rattle.std.proofs.lemmas.Bool.{ltb-true, leb-false}
use Rattle.refusal.specs.declared.Refusal.TheVariants as refuses
use Rattle.store.specs.Table.{both}
use Rattle.store.proofs.Orders.{both_true}
use Rattle.law.specs.declared.Carried.{Carried}
use Rattle.law.specs.declared.Restart.{Restart}
use Rattle.refusal.specs.Answers.{replied}
use Rattle.law.specs.Book.{Book as Shown, Cluster as Group, Ticket, count, number, with_clusters, with_restart, with_restarts, most_clusters, stays, last_number}
use Rattle.law.specs.Restarts.{place, told, begun, drop_rounds, fault_refusal, fault_book, faulted, called_to, carry, alert_refusal, alerted, alert_book, alerted_tells, alert_tells, drained, settle, finished, finish_refusal, finish_book}
use Rattle.law.specs.Trials.{trial_refusal}
use Rattle.law.proofs.State.{passes, escapes}
use Rattle.book.specs.declared.book.Book.{Book}
use Rattle.book.specs.declared.cluster.Cluster.{Cluster}
use Rattle.federation.proofs.Allowed.{done, tells}

pub fault_allowed : (b : Shown) (f : ℕ) → None ≡ fault_refusal b f → (f < count b) × (b.restarts < last_number)
fault_allowed b f t =
    let p = passes (ltb f (count b)) refuses.NoCluster _ (sym t) in
    let q = escapes (is_some b.restart) refuses.RestartOpen _ p.1 in
    let r = escapes (leb last_number b.restarts) refuses.NumbersSpent None q.1 in
    (ltb-true _ _ p.0, leb-false _ _ r.0)

pub alert_allowed : (b : Shown) (t : Ticket) (i j : ℕ) → None ≡ alert_refusal b t i j → (i < count b) × (j < count b)
alert_allowed b t i j e =
    let p = passes (both (ltb i (count b)) (ltb j (count b))) refuses.NoCluster _ (sym e) in
    let q = both_true (ltb i (count b)) (ltb j (count b)) p.0 in
    (ltb-true _ _ q.0, ltb-true _ _ q.1)

pub trial_allowed : (b : Shown) (f : ℕ) → None ≡ trial_refusal b f → f < count b
trial_allowed b f t = ltb-true _ _ (passes (ltb f (count b)) refuses.NoCluster _ (sym t)).0

-- the clusters of a book, read as a slice
module _ (b : Book) (cs : List Cluster) (read : cs ≡ vec_items b.clusters) where
  pub slice_len : length cs ≡ vec_len b.clusters
  slice_len = ap length read ∙ sym b.clusters.ok.0

  pub slice_few : length cs ≤ 8
  slice_few = let few = b.few in let len = slice_len in omega arith

-- an accepted fault: x is the book without its rounds
module _ (b : Shown) (f k : ℕ) (cs : List Group) (r : Restart)
    (none : fault_refusal b f ≡ None) (here : k ≡ f) (read : cs ≡ b.clusters) (begins : r ≡ begun cs k) where
  begins_here : r ≡ begun b.clusters f
  begins_here = begins ∙ ap₂ begun read here

  pub fault_leaves : (x : Shown) → x ≡ with_clusters b (drop_rounds b.clusters) → with_restart (with_restarts x (x.restarts + 1)) (Some r) ≡ fault_book b f
  fault_leaves x drops =
      ap (λ (y : Shown). with_restart (with_restarts y (y.restarts + 1)) (Some r)) drops
      ∙ ap₂ (λ (n : ℕ) (z : Restart). with_restart (with_restarts (with_clusters b (drop_rounds b.clusters)) n) (Some z)) (add-one b.restarts) begins_here
      ∙ done (fault_refusal b f) b (faulted b f) none

  pub fault_says : f < 8 → Ok (place r k) ≡ replied (fault_refusal b f) (number b f)
  fault_says few =
      tells (fault_refusal b f) (place r k) none
      ∙ ap (λ (n : ℕ). replied (fault_refusal b f) n) (ap₂ place begins_here here ∙ get_or-set_same (replicate most_clusters stays) f (number b f) 0 few)

-- an accepted alert: new is the restart after it
module _ (b : Shown) (t : Ticket) (i j k l : ℕ) (cs : List Group) (r new : Restart)
    (none : alert_refusal b t i j ≡ None) (opened : b.restart ≡ Some r) (origin : k ≡ i) (target : l ≡ j) (read : cs ≡ b.clusters) (carries : new ≡ carry cs r k l) where
  carries_here : new ≡ carry b.clusters r i j
  carries_here = carries ∙ ap (λ (z : List Group). carry z r k l) read ∙ ap₂ (carry b.clusters r) origin target

  pub alert_leaves : with_restart b (Some new) ≡ alert_book b t i j
  alert_leaves =
      ap (λ (z : Restart). with_restart b (Some z)) carries_here
      ∙ ap (λ (o : Option Restart). with_restart b (alerted b i j o)) (sym opened)
      ∙ done (alert_refusal b t i j) b (with_restart b (alerted b i j b.restart)) none

  pub alert_says : (moved : Bool) (p : ℕ) → moved ≡ is_some (called_to cs r k l) → p ≡ told (place new l) → Ok (record { moved = moved; place = p }) ≡ alert_tells b t i j
  alert_says moved p moves places =
      tells (alert_refusal b t i j) (record { moved = moved; place = p }) none
      ∙ ap₂ (λ (z : Bool) (n : ℕ). replied (alert_refusal b t i j) (carried z n))
      (moves ∙ ap (λ (z : List Group). is_some (called_to z r k l)) read ∙ ap₂ (λ (y z : ℕ). is_some (called_to b.clusters r y z)) origin target)
      (places ∙ ap₂ (λ (z : Restart) (n : ℕ). told (place z n)) carries_here target)
      ∙ ap (λ (o : Option Restart). replied (alert_refusal b t i j) (alerted_tells b i j o)) (sym opened)
    where
      carried : Bool → ℕ → Carried
      carried z n = record { moved = z; place = n }

-- an accepted finish: new is the restart drained
pub finish_leaves : (b : Shown) (t : Ticket) (cs : List Group) (r new : Restart) → finish_refusal b t ≡ None → b.restart ≡ Some r → cs ≡ b.clusters → new ≡ drained cs r → with_restart b (Some (settle new)) ≡ finish_book b t
finish_leaves b t cs r new none opened read drains =
    ap (λ (z : Restart). with_restart b (Some (settle z))) (drains ∙ ap (λ (z : List Group). drained z r) read)
    ∙ ap (λ (o : Option Restart). with_restart b (finished b.clusters o)) (sym opened)
    ∙ done (finish_refusal b t) b (with_restart b (finished b.clusters b.restart)) none
