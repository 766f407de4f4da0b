-- Trial and collect: where a fault would lead, and what no later fault can need.
--
--   trial_refusal    why trial refuses, if it does; trial_tells what it tells; the book stays as it is
--   collect_refusal  why collect refuses, if it does; collect_tells, collect_book what it tells and leaves
--   lowest           the smallest place of each cluster over the faults of the first so many clusters
--   Collected        the bounds, and how many checkpoints and messages are gone
use Rattle.std.specs.Prelude.{ℕ, zero, suc, ◌+◌, ◌-◌, min, Bool, true, cond, nat_lt, nat_le, List, [], ◌∷◌, length, take, replicate, is_some, Some, None, filter, Option, Result, slice_index}
use Rattle.refusal.specs.declared.Refusal.{Refusal}
use Rattle.refusal.specs.declared.Refusal.TheVariants as refuses
use Rattle.law.specs.declared.Logged.{Logged}
use Rattle.refusal.specs.Answers.{unless_refused, replied}
use Rattle.law.specs.Book.{Book, Cluster, count, with_log, most_clusters, stays}
use Rattle.law.specs.Restarts.{begun, drained, tells_places, prune}

-- the places to which a fault of f would lead
abbrev pub trial : List Cluster → ℕ → List ℕ
trial cs f = (drained cs (begun cs f)).places

abbrev pub trial_refusal : Book → ℕ → Option Refusal
trial_refusal b f = cond (nat_lt f (count b)) (cond (is_some b.restart) (Some refuses.RestartOpen) None) (Some refuses.NoCluster)

abbrev pub trial_tells : Book → ℕ → Result (List ℕ) Refusal
trial_tells b f = replied (trial_refusal b f) (tells_places (count b) (trial b.clusters f))

abbrev pub lower : List ℕ → List ℕ → List ℕ
lower [] ys = []
lower (x ∷ xs) [] = []
lower (x ∷ xs) (y ∷ ys) = min x y ∷ lower xs ys

-- a cluster's own fault puts it at its number, so one that stays elsewhere may count as any higher place
abbrev pub lowest : ℕ → List Cluster → List ℕ
lowest zero cs = replicate most_clusters stays
lowest (suc f) cs = lower (lowest f cs) (trial cs f)

abbrev pub bounds : Book → List ℕ
bounds b = lowest (count b) b.clusters

abbrev pub collect_refusal : Book → Option Refusal
collect_refusal b = cond (is_some b.restart) (Some refuses.RestartOpen) None

-- a cluster without its checkpoints below a bound
abbrev pub from : ℕ → Cluster → Cluster
from bound c = record { row = c.row; kept = filter (λ k. nat_le bound k.number) c.kept; round = c.round }

-- the first k clusters without their checkpoints below the bounds
abbrev pub from_bounds : List ℕ → ℕ → Book → Book
from_bounds bs = prune (λ j. from (slice_index bs j)) (λ j n. nat_lt n (slice_index bs j))

abbrev pub received_from : ℕ → Option ℕ → Bool
received_from bound None = true
received_from bound (Some n) = nat_le bound n

-- a message stays if it is undelivered, or its receipt number is not below its receiver's bound
abbrev pub log_from : List ℕ → List Logged → List Logged
log_from bs ms = filter (λ m. received_from (slice_index bs m.message.to) m.receipt) ms

abbrev pub collected : Book → Book
collected b = with_log (from_bounds (bounds b) (count b) b) (log_from (bounds b) b.log)

abbrev pub collect_book : Book → Book
collect_book b = unless_refused (collect_refusal b) b (collected b)

abbrev pub kept_in : List Cluster → ℕ
kept_in [] = 0
kept_in (c ∷ cs) = length c.kept + kept_in cs

pub record Collected : Type 0 where
  pub bounds : List ℕ
  pub checkpoints : ℕ
  pub messages : ℕ

abbrev pub collect_tells : Book → Result Collected Refusal
collect_tells b =
    replied (collect_refusal b)
    (record { bounds = take (count b) (bounds b); checkpoints = kept_in b.clusters - kept_in (collected b).clusters; messages = length b.log - length (collected b).log })
