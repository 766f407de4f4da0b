-- no cluster keeps more than it did, so the difference does not go below 0
use Rattle.std.proofs.Common.{◌≡◌, ◌≤◌, List, map, vec_len, ap, ◌∙◌, arith}
use Rattle.law.specs.Book.{Book as Shown}
use Rattle.law.specs.Trials.{kept_in, from_bounds}
use Rattle.book.specs.declared.cluster.Cluster.{Cluster}
use Rattle.book.specs.View.{view, group, groups}
use Rattle.federation.proofs.Cutting.{from_fewer}
use Rattle.federation.proofs.cuts.drop_checkpoints.Goals as goal

pub overflow_sub-result : goal.overflow_sub-result
overflow_sub-result g c =
    let b = c.args.book.now in
    let mid = c.from_bounds.new.book in
    let v : Shown = view b (g.S.Store.model c.args.store.now) in
    let before : c.kept_in-before.result ≡ kept_in (groups b) = c.kept_in-before.ensures ∙ ap (λ (cs : List Cluster). kept_in (map group cs)) c.as_slice.ensures.value in
    let after : c.kept_in.result ≡ kept_in (groups mid) = c.kept_in.ensures ∙ ap (λ (cs : List Cluster). kept_in (map group cs)) c.as_slice-2.ensures.value in
    let cut : kept_in (groups mid) ≡ kept_in (from_bounds c.args.bounds (vec_len b.clusters) v).clusters = ap (λ (x : Shown). kept_in x.clusters) c.from_bounds.ensures in
    let fewer : kept_in (from_bounds c.args.bounds (vec_len b.clusters) v).clusters ≤ kept_in (groups b) = from_fewer c.args.bounds (vec_len b.clusters) v in
    omega arith
