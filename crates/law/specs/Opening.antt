-- Open: a federation with its sizes and an empty store, every cluster at checkpoint 1.
--
--   open_refusal  why open refuses, if it does; open_book the book that it begins
--   first_row     the row of a new cluster: 1 for itself, 0 for every other
--   kept_first    the store after zero words were kept for checkpoint 1 of the first so many clusters
use Rattle.std.specs.Prelude.{ℕ, zero, suc, Bool, true, false, cond, List, [], ◌∷◌, ◌++◌, replicate, Some, None, Option, nat_le, slice_set}
use Rattle.refusal.specs.declared.Refusal.{Refusal}
use Rattle.refusal.specs.declared.Refusal.TheVariants as refuses
use Rattle.store.specs.Table.{Model, keep_model, both}
use Rattle.law.specs.Book.{Book, Cluster, most_clusters, most_nodes}

abbrev pub is_empty : {A : Type 0} → List A → Bool
is_empty [] = true
is_empty (x ∷ xs) = false

-- 2 to 8 clusters of 1 to 32 nodes, and an empty store with room for checkpoint 1 of each
abbrev pub opens : ℕ → ℕ → Model → Bool
opens n nodes m =
    both (both (nat_le 2 n) (nat_le n most_clusters))
    (both (both (nat_le 1 nodes) (nat_le nodes most_nodes))
    (both (is_empty m.table) (nat_le n m.capacity)))

abbrev pub open_refusal : ℕ → ℕ → Model → Option Refusal
open_refusal n nodes m = cond (opens n nodes m) None (Some refuses.BadOpen)

abbrev pub first_row : ℕ → List ℕ
first_row i = slice_set (replicate most_clusters 0) i 1

abbrev pub first_cluster : ℕ → Cluster
first_cluster i =
    record { row = first_row i; kept = record { number = 1; row = first_row i } ∷ []; round = None }

abbrev pub first_clusters : ℕ → List Cluster
first_clusters zero = []
first_clusters (suc k) = first_clusters k ++ (first_cluster k ∷ [])

abbrev pub kept_first : ℕ → ℕ → Model → Model
kept_first zero nodes m = m
kept_first (suc k) nodes m = keep_model (kept_first k nodes m) k 1 (replicate nodes 0)

abbrev pub open_book : ℕ → ℕ → ℕ → Model → Book
open_book name n nodes m =
    record { name = name; nodes = nodes; clusters = first_clusters n; log = []; next_id = 1; restarts = 0; restart = None; store = kept_first n nodes m }
