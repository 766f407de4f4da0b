-- the row of the place, and the checkpoints up to it
use Rattle.std.proofs.Common.{◌≡◌, ℕ, leb, List, filter, vec_items, slice_index, sym, subst, rules, tests}
use Rattle.std.proofs.lemmas.Fn.{filter_same}
use Rattle.std.proofs.lemmas.Bool.{leb-true}
use Rattle.law.specs.Book.{entry}
use Rattle.pruning.proofs.Staying.{Settled, settled, cluster-stays}
use Rattle.pruning.proofs.Cutting.{back-shown}
use Rattle.pruning.proofs.cut.BackCut.change.Goals as goal

pub invariant_of-cluster : goal.invariant_of-cluster
invariant_of-cluster c =
    let was = c.args.cluster.now in
    let place = slice_index c.args.self.now.places was.own in
    let there : Settled place (entry was.row was.own) (entry c.row_back-row.result was.own) =
    subst (λ (z : List ℕ). Settled place (entry was.row was.own) (entry z was.own)) (sym c.row_back-row.ensures) (settled was.own place was.row (vec_items was.kept) was.topped) in
    let items : vec_items c.retain.new.self ≡ filter (λ k. leb k.number place) (vec_items was.kept) = filter_same _ _ _ (λ x b q k. search (rules, tests)) _ _ c.retain.ensures.filtered in
    let s = cluster-stays was c.row_back-row.result c.retain.new.self (λ k. leb k.number place) items c.retain.ensures.capacity there.0
    (λ k passes low. there.1 k.number (leb-true k.number place passes) low) in
    record { within = was.within; room = s.room; few = s.few; ascends = s.ascends; topped = s.topped; ends = s.ends }

pub returns-clause-after : goal.returns-clause-after
returns-clause-after c =
    let was = c.args.cluster.now in
    let place = slice_index c.args.self.now.places was.own in
    let items : vec_items c.retain.new.self ≡ filter (λ k. leb k.number place) (vec_items was.kept) = filter_same _ _ _ (λ x b q k. search (rules, tests)) _ _ c.retain.ensures.filtered in
    back-shown was place c.row_back-row.result (vec_items c.retain.new.self) c.row_back-row.ensures items
