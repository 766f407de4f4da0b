-- the first record under the key is the only one, so its row is the one that goes
use Rattle.std.proofs.Common.{List, map, is_some, sym, ap, ◌∙◌, arith}
use Rattle.std.proofs.lemmas.Bool.{cond-true, cond-false}
use Rattle.refusal.specs.Answers.{replied}
use Rattle.records.specs.declared.Held.{Held}
use Rattle.records.specs.Layout.{row_in}
use Rattle.records.specs.Order.{sort_rows}
use Rattle.journal.proofs.Steps.{forget_step, found_at, found_none, held_most}
use Rattle.journal.proofs.Journal.forget.Goals as goal

abbrev none : Held
none = record { key = record { cluster = 0; number = 0 }; at = 0; count = 0 }

pub returns-in_default-clause-answer : goal.returns-in_default-clause-answer
returns-in_default-clause-answer c =
    sym (ap (λ why. replied why tt) (cond-false _ _ _ (ap is_some (found_none c.args.self.now c.args.key.cluster c.args.key.number c.as_slice.ensures.value c.in_default.ensures).0)))

pub returns-in_default-clause-rows : goal.returns-in_default-clause-rows
returns-in_default-clause-rows c = sym (found_none c.args.self.now c.args.key.cluster c.args.key.number c.as_slice.ensures.value c.in_default.ensures).1

pub reindex-requires : goal.reindex-requires
reindex-requires c =
    let j = c.args.self.now in
    omega (arith, held_most j, j.index_room, c.remove.ensures.len, c.as_slice-2.ensures.len)

pub invariant_of-self-2-clause-sound : goal.invariant_of-self-2-clause-sound
invariant_of-self-2-clause-sound c =
    let there = found_at c.args.self.now c.args.key.cluster c.args.key.number c.as_slice.ensures.value c.in-Some.ensures in
    (forget_step c.args.self.now c.args.key.cluster c.args.key.number c.in-Some.i there.0 there.2 c.remove.ensures.items
    (λ xs. c.reindex.ensures.rows xs ∙ ap (λ (hs : List Held). sort_rows (map (row_in xs) hs)) c.as_slice-2.ensures.value)).1

pub returns-clause-answer : goal.returns-clause-answer
returns-clause-answer c =
    sym (ap (λ why. replied why tt) (cond-true _ _ _ (ap is_some ((found_at c.args.self.now c.args.key.cluster c.args.key.number c.as_slice.ensures.value c.in-Some.ensures).1 none))))

pub returns-clause-rows : goal.returns-clause-rows
returns-clause-rows c =
    let there = found_at c.args.self.now c.args.key.cluster c.args.key.number c.as_slice.ensures.value c.in-Some.ensures in
    (forget_step c.args.self.now c.args.key.cluster c.args.key.number c.in-Some.i there.0 there.2 c.remove.ensures.items
    (λ xs. c.reindex.ensures.rows xs ∙ ap (λ (hs : List Held). sort_rows (map (row_in xs) hs)) c.as_slice-2.ensures.value)).0
