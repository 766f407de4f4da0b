use Rattle.std.proofs.Common.{length, ap, arith}
use Rattle.runlist.proofs.Reading.{passed, stopped}
use Rattle.runlist.proofs.reader.reads.ReaderIterator.next.Goals as goal

pub overflow_add-self : goal.overflow_add-self
overflow_add-self c = let f = passed c.args.self.now c.in_ok-placed.ensures.first c.in-Ok.is in omega (arith, f)

pub overflow_add-self-in-Ok : goal.overflow_add-self-in-Ok
overflow_add-self-in-Ok c =
    let f = passed c.args.self.now c.in_ok-placed.ensures.first c.in-Ok.is in
    omega (arith, f, ap length c.bytes.ensures)

pub invariant_of-self : goal.invariant_of-self
invariant_of-self c =
    let f = passed c.args.self.now c.in_ok-placed.ensures.first c.in-Ok.is in
    record { within = omega (arith, f, ap length c.bytes.ensures) }

pub returns-in-Ok : goal.returns-in-Ok
returns-in-Ok c =
    let f = passed c.args.self.now c.in_ok-placed.ensures.first c.in-Ok.is in record {
      steps = rw c.bytes.ensures f.step;
      goes = record { on = λ _. (tt, tt, omega (arith, f, ap length c.bytes.ensures)); keeps = tt; rests = λ _. tt };
    }

pub returns-in-Err-clause-steps : goal.returns-in-Err-clause-steps
returns-in-Err-clause-steps c = stopped c.args.self.now c.in_ok-placed.ensures.first c.in-Err.is
