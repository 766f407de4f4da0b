-- What a cluster and a book show after a cut, field by field.
use Rattle.std.proofs.Common.{◌≡◌, ℕ, suc, ◌<◌, Bool, leb, List, map, length, get_or, set, vec_items, filter, Option, ap, ◌∙◌}
use Rattle.store.specs.Table.{Model}
use Rattle.law.specs.declared.Checkpoint.{Checkpoint}
use Rattle.law.specs.declared.Round.{Round}
use Rattle.law.specs.Book.{Cluster as Group, Book as Shown, at, nobody, with_clusters, with_cluster, with_store}
use Rattle.law.specs.Restarts.{back, discard, prune}
use Rattle.law.specs.Trials.{from}
use Rattle.book.specs.declared.cluster.Cluster.{Cluster}
use Rattle.book.specs.declared.book.Book.{Book}
use Rattle.book.specs.View.{group, view}
use Rattle.book.proofs.Groups.{group_at, group-set}
use Rattle.pruning.specs.Cutting.{row_back}

abbrev grouped : List ℕ → List Checkpoint → Option Round → Group
grouped row kept round = record { row = row; kept = kept; round = round }

module _ (was : Cluster) (place : ℕ) where
  pub back-shown : (row : List ℕ) (kept : List Checkpoint) → row ≡ row_back place was.row (vec_items was.kept) → kept ≡ filter (λ k. leb k.number place) (vec_items was.kept) → grouped row kept was.round ≡ back place (group was)
  back-shown row kept r k =
      ap (λ (z : List ℕ). grouped z kept was.round) r
      ∙ ap (λ (z : List Checkpoint). grouped (row_back place was.row (vec_items was.kept)) z was.round) k

  pub from_shown : (kept : List Checkpoint) → kept ≡ filter (λ k. leb place k.number) (vec_items was.kept) → grouped was.row kept was.round ≡ from place (group was)
  from_shown kept k = ap (λ (z : List Checkpoint). grouped was.row z was.round) k

module _ (change : ℕ → Group → Group) (gone : ℕ → ℕ → Bool) (b : Book) (m : Model) where
  -- the book shown with these clusters, and with what is left in the store
  abbrev pub left_with : List Cluster → Model → Shown
  left_with cs left = with_store (with_clusters (view b m) (map group cs)) left

  -- one cluster more is cut
  pub pruned_more : (cs : List Cluster) (left next : Model) (i : ℕ) (was new : Cluster) → i < length cs → was ≡ get_or cs i was → left_with cs left ≡ prune change gone i (view b m) →
      group new ≡ change i (group was) → next ≡ discard i (gone i) (vec_items was.kept) left → left_with (set cs i new) next ≡ prune change gone (suc i) (view b m)
  pruned_more cs left next i was new h read before changed dropped =
      ap (λ (z : List Group). with_store (with_clusters (view b m) z) next) (group-set cs i was new (change i) h read changed)
      ∙ ap (with_store (with_clusters (view b m) (set (map group cs) i (change i (get_or (map group cs) i nobody)))))
      (dropped ∙ ap (λ (x : Group). discard i (gone i) x.kept left) (group_at cs i was h read))
      ∙ ap (λ (v : Shown). with_store (with_cluster v i (change i (at v i))) (discard i (gone i) (at v i).kept v.store)) before
