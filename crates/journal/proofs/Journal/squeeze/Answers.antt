-- the records lie in order, so they can be moved together; the vector shows the moved ones
use Rattle.std.proofs.Common.{List, length, vec_items, sym, subst, arith}
use Rattle.records.specs.declared.Held.{Held}
use Rattle.records.specs.Layout.{Laid}
use Rattle.journal.proofs.Holding.{laid_wider}
use Rattle.journal.proofs.Steps.{squeezed, held_count, held_most}
use Rattle.journal.proofs.Journal.squeeze.Goals as goal

pub compact-requires : goal.compact-requires
compact-requires c =
    let j = c.args.self.now in
    subst (λ (hs : List Held). Laid 0 hs (length j.bytes.now)) (sym c.as_mut_slice.ensures.value)
    (laid_wider 0 (vec_items j.held) j.used (length j.bytes.now) j.sound.laid (omega (arith, j.within, j.size)))

pub reindex-requires : goal.reindex-requires
reindex-requires c =
    let j = c.args.self.now in
    omega (arith, held_most j, j.index_room, c.as_slice.ensures.len)

pub invariant_of-self-clause-within : goal.invariant_of-self-clause-within
invariant_of-self-clause-within c =
    let told = c.compact.ensures in
    let small = (squeezed c.args.self.now c.as_mut_slice.ensures.value c.as_mut_slice.ensures.len c.compact.auto.held told.end told.front told.held
    c.as_slice.ensures.value c.reindex.ensures.rows).2 in
    omega (arith, held_count c.args.self.now, held_most c.args.self.now)

pub invariant_of-self-clause-sound : goal.invariant_of-self-clause-sound
invariant_of-self-clause-sound c =
    let told = c.compact.ensures in
    (squeezed c.args.self.now c.as_mut_slice.ensures.value c.as_mut_slice.ensures.len c.compact.auto.held told.end told.front told.held
    c.as_slice.ensures.value c.reindex.ensures.rows).3

pub returns : goal.returns
returns c =
    let told = c.compact.ensures in
    let step = squeezed c.args.self.now c.as_mut_slice.ensures.value c.as_mut_slice.ensures.len c.compact.auto.held told.end told.front told.held
    c.as_slice.ensures.value c.reindex.ensures.rows in
    record { records = step.0; rows = step.1; small = step.2 }
