-- one cluster more, at its own position
use Rattle.std.proofs.Common.{List, [], ◌∷◌, ◌++◌, map, vec_items, sym, ap, ◌∙◌, ap₂, add-one, arith}
use Rattle.std.proofs.lemmas.List.{map_push}
use Rattle.law.specs.Book.{Cluster as Group}
use Rattle.law.specs.Opening.{first_clusters}
use Rattle.book.specs.Placed.{placed}
use Rattle.book.specs.View.{group}
use Rattle.book.proofs.Placing.{placed_push}
use Rattle.book.proofs.book.opens.new_clusters.Goals as goal

pub loop-i-preserved : goal.loop-i-preserved
loop-i-preserved c =
    let new = c.in_ok-new.field-0 in
    let made = c.in_ok-new.ensures in
    let items = c.in_ok-push.ensures.items in
    let len = c.in_ok-push.ensures.len in
    let before = c.loop-i.invariant.0 in
    let old = vec_items c.loop-i.clusters in
    let ok = c.loop-i.clusters.ok.0 in (
      omega arith,
      ap (map group) items ∙ map_push group old new ∙ ap₂ (λ (xs : List Group) (x : Group). xs ++ (x ∷ [])) c.loop-i.invariant.1 made.0 ∙ ap first_clusters (sym (add-one c.loop-i.i)),
      ap (placed 0) items ∙ placed_push 0 old new c.loop-i.invariant.2 (made.1 ∙ omega arith),
    )
