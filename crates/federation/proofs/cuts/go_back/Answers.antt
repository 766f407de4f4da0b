-- the log is cut after the clusters, which leave it as it was
use Rattle.std.proofs.Common.{ℕ, List, ap, ◌∙◌}
use Rattle.law.specs.declared.Logged.{Logged}
use Rattle.law.specs.Restarts.{tells_places, log_back, again}
use Rattle.federation.proofs.Cutting.{resumed-view, back_items}
use Rattle.federation.proofs.cuts.go_back.Goals as goal

pub returns : goal.returns
returns g c =
    let b = c.args.book.now in
    let ps = c.args.places in
    let mid = c.back_to.new.book in
    let m = g.S.Store.model c.args.store.now in
    let m' = g.S.Store.model c.back_to.new.store in
    record {
      answer = (
        c.told_places.ensures ∙ ap (λ (n : ℕ). tells_places n ps) c.count-clusters.ensures.len,
        c.undo_messages-ids.ensures.value ∙ ap (λ (ms : List Logged). again ps (log_back ps ms)) (back_items ps b mid m m' c.back_to.ensures),
      );
      after = c.undo_messages-ids.ensures.after m' ∙ resumed-view ps b mid m m' c.back_to.ensures;
    }
