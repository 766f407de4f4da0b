-- the log holds at most 128 messages and does not grow
use Rattle.std.proofs.Common.{length, vec_items, ap, arith}
use Rattle.pruning.proofs.LogStays.{log_from_short}
use Rattle.federation.proofs.Cutting.{fit-left, from_left}
use Rattle.federation.proofs.cuts.drop_messages.Goals as goal

pub invariant_of-book : goal.invariant_of-book
invariant_of-book c =
    let b = c.args.book.now in
    let fit = fit-left b c.log_from.new.log _ c.log_from.ensures.capacity c.log_from.ensures.items (from_left c.args.bounds.now (vec_items b.log)) in
    record { noded = b.noded; few = b.few; placed = b.placed; room = fit.room; short = fit.short; ascends = fit.ascends; below = fit.below; addressed = fit.addressed }

pub overflow_sub-result : goal.overflow_sub-result
overflow_sub-result c =
    let b = c.args.book.now in
    let len = b.log.ok.0 in
    let left = c.log_from.new.log.ok.0 in
    let fewer = log_from_short c.args.bounds.now (vec_items b.log) in
    let many = ap length c.log_from.ensures.items in
    omega arith
