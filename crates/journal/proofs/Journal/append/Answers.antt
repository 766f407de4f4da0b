-- there is memory for one more, since fewer than 64 rows are held
use Rattle.std.proofs.Common.{arith}
use Rattle.journal.proofs.Steps.{append_step, few_rows, held_count}
use Rattle.journal.proofs.Journal.append.Goals as goal

pub push_reserved-requires : goal.push_reserved-requires
push_reserved-requires c =
    let j = c.args.self.now in
    omega (arith, few_rows j c.args.key.cluster c.args.key.number c.args.words.now c.requires.free, held_count j, j.held_room)

pub invariant_of-self-clause-sound : goal.invariant_of-self-clause-sound
invariant_of-self-clause-sound c =
    let told = c.write_keep.ensures in
    (append_step c.args.self.now c.args.key.cluster c.args.key.number c.args.words.now c.requires.free told.end told.front told.reads
    c.push_reserved.ensures.items c.insert_ordered.ensures.rows).1

pub returns-clause-rows : goal.returns-clause-rows
returns-clause-rows c =
    let told = c.write_keep.ensures in
    (append_step c.args.self.now c.args.key.cluster c.args.key.number c.args.words.now c.requires.free told.end told.front told.reads
    c.push_reserved.ensures.items c.insert_ordered.ensures.rows).0
