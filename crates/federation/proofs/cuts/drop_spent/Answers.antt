-- the bounds leave the book as it was; then the clusters are cut, and then the log
use Rattle.std.proofs.Common.{◌≡◌, ℕ, List, take, sym, ap, ◌∙◌, ap₂}
use Rattle.law.specs.Trials.{bounds, collected}
use Rattle.book.specs.declared.book.Book.{Book}
use Rattle.book.specs.View.{view}
use Rattle.federation.specs.Collecting.{spent}
use Rattle.federation.proofs.Cutting.{spent_of, collected-view, collected-told}
use Rattle.federation.proofs.cuts.drop_spent.Goals as goal

pub returns : goal.returns
returns g c =
    let b = c.args.book.now in
    let same-book : Book = c.lowest_bounds-lowest.new.book in
    let mid : Book = c.drop_checkpoints-checkpoints.new.book in
    let out : Book = c.drop_messages-messages.new.book in
    let m = g.S.Store.model c.args.store.now in
    let m' = g.S.Store.model c.drop_checkpoints-checkpoints.new.store in
    let bs : List ℕ = c.lowest_bounds-lowest.result in
    let is : view same-book m ≡ view b m = c.lowest_bounds-lowest.ensures.same m in
    let least : bs ≡ bounds (view same-book m) = c.lowest_bounds-lowest.ensures.value ∙ ap bounds (sym is) in
    let cut = c.drop_checkpoints-checkpoints.ensures in
    let left = c.drop_messages-messages.ensures in
    record {
      answer = ap (λ (l : List ℕ). spent_of l c.drop_checkpoints-checkpoints.result c.drop_messages-messages.result) (c.truncate.ensures.items ∙ ap (take c.count-clusters.result) c.from-bounds.ensures.0)
          ∙ ap₂ (spent_of _) cut.value left.value
          ∙ collected-told bs c.count-clusters.result same-book mid out m m' least c.count-clusters.ensures.value cut.after (left.after m')
          ∙ ap spent is;
      after = left.after m' ∙ collected-view bs same-book mid m m' least cut.after ∙ ap collected is;
    }
