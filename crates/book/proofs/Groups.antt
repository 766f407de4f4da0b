-- A cluster read or written in the book is the same cluster read or written in what the book shows.
use Rattle.std.proofs.Common.{◌≡◌, ℕ, ◌<◌, List, map, length, get_or, set, vec_items, vec_len, sym, ap, ◌∙◌}
use Rattle.std.proofs.lemmas.List.{get_or-map, map-set, length-map}
use Rattle.law.specs.Book.{Cluster as Group, nobody}
use Rattle.book.specs.declared.cluster.Cluster.{Cluster}
use Rattle.store.specs.Table.{Model}
use Rattle.book.specs.declared.book.Book.{Book}
use Rattle.book.specs.View.{group, view}

pub group_at : (cs : List Cluster) (i : ℕ) (c : Cluster) → i < length cs → c ≡ get_or cs i c → group c ≡ get_or (map group cs) i nobody
group_at cs i c within read =
    let at : group (get_or cs i c) ≡ get_or (map group cs) i nobody = sym (get_or-map group cs i c nobody within) in
    ap group read ∙ at

-- a cluster changed in its place
pub group-set : (cs : List Cluster) (i : ℕ) (was now : Cluster) (change : Group → Group) → i < length cs → was ≡ get_or cs i was → group now ≡ change (group was) → map group (set cs i now) ≡ set (map group cs) i (change (get_or (map group cs) i nobody))
group-set cs i was now change within read changed =
    let at = group_at cs i was within read in
    map-set group cs i now ∙ ap (set (map group cs) i) (changed ∙ ap change at)

-- the book shows as many clusters as it has
pub shown_len : (b : Book) (m : Model) → length (view b m).clusters ≡ vec_len b.clusters
shown_len b m = length-map (vec_items b.clusters) group ∙ sym b.clusters.ok.0
