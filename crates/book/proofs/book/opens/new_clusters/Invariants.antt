-- the clusters made so far
use Rattle.std.proofs.Common.{◌≡◌, true, map, vec_items, vec_len}
use Rattle.law.specs.Opening.{first_clusters}
use Rattle.book.specs.Placed.{placed}
use Rattle.book.specs.View.{group}
use Rattle.book.proofs.book.opens.new_clusters.Given as goal

abbrev pub invariant-loop-i : goal.invariant-loop-i
invariant-loop-i l = (vec_len l.clusters ≡ l.i) × (map group (vec_items l.clusters) ≡ first_clusters l.i) × (placed 0 (vec_items l.clusters) ≡ true)
