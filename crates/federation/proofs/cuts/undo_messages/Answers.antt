-- what is left of the log is no longer than it was, and as well ordered
use Rattle.std.proofs.Common.{vec_items}
use Rattle.federation.proofs.Cutting.{fit-left, back-left}
use Rattle.federation.proofs.cuts.undo_messages.Goals as goal

pub invariant_of-book : goal.invariant_of-book
invariant_of-book c =
    let b = c.args.book.now in
    let fit = fit-left b c.log_back.new.log _ c.log_back.ensures.capacity c.log_back.ensures.items (back-left c.args.places.now (vec_items b.log)) in
    record { noded = b.noded; few = b.few; placed = b.placed; room = fit.room; short = fit.short; ascends = fit.ascends; below = fit.below; addressed = fit.addressed }
