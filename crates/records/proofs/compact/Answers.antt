-- the place to write never passes the place to read
use Rattle.std.proofs.Common.{arith}
use Rattle.records.specs.declared.Held.{Held}
use Rattle.records.proofs.Compacting.{bounds, moved-next}
use Rattle.records.proofs.compact.Goals as goal

abbrev none : Held
none = record { key = record { cluster = 0; number = 0 }; at = 0; count = 0 }

pub overflow_mul-size : goal.overflow_mul-size
overflow_mul-size c = omega (arith, (bounds c.loop-record.invariant c.loop-record-test.true none).1)

pub overflow_add-size : goal.overflow_add-size
overflow_add-size c = omega (arith, (bounds c.loop-record.invariant c.loop-record-test.true none).1)

pub overflow_add-record : goal.overflow_add-record
overflow_add-record c = omega (arith, (bounds c.loop-record.invariant c.loop-record-test.true none).1)

pub copy_within-requires-clause-in_bounds : goal.copy_within-requires-clause-in_bounds
copy_within-requires-clause-in_bounds c = (bounds c.loop-record.invariant c.loop-record-test.true none).1

pub copy_within-requires-clause-dest_in_bounds : goal.copy_within-requires-clause-dest_in_bounds
copy_within-requires-clause-dest_in_bounds c =
    let within = bounds c.loop-record.invariant c.loop-record-test.true none in omega (arith, within.0, within.1)

pub overflow_add-end : goal.overflow_add-end
overflow_add-end c =
    let within = bounds c.loop-record.invariant c.loop-record-test.true none in omega (arith, within.0, within.1)

pub loop-record-preserved : goal.loop-record-preserved
loop-record-preserved c =
    moved-next c.loop-record.invariant c.loop-record-test.true none c.copy_within.new.self c.copy_within.ensures.after
