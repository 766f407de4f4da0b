-- a record goes behind the others, which are moved together first where it would not fit
use Rattle.std.proofs.Common.{◌≡◌, List, [], ◌∷◌, ◌++◌, None, Option, sym, ap, ◌∙◌, arith}
use Rattle.refusal.specs.declared.StoreRefusal.{StoreRefusal}
use Rattle.refusal.specs.Answers.{unless_refused}
use Rattle.store.specs.Table.{TableRow, keep_refusal}
use Rattle.store.proofs.Tables.{new_row}
use Rattle.journal.specs.State.{records_of, rows_of, journal_model, keep_records}
use Rattle.journal.proofs.Steps.{few_rows, kept_model, kept_records}
use Rattle.journal.proofs.Journal.keep_row.Goals as goal

pub make_room-requires-clause-few : goal.make_room-requires-clause-few
make_room-requires-clause-few c =
    let free : keep_refusal (journal_model c.args.self.now) c.args.key.cluster c.args.key.number c.args.words.now ≡ None = grind arith in
    few_rows c.args.self.now c.args.key.cluster c.args.key.number c.args.words.now free

pub returns-clause-after : goal.returns-clause-after
returns-clause-after c =
    let ws = c.args.words.now in
    let free : keep_refusal (journal_model c.args.self.now) c.args.key.cluster c.args.key.number ws ≡ None = grind arith in
    kept_model c.args.self.now _ c.args.key.cluster c.args.key.number ws free
    (c.append.ensures.rows ∙ ap (λ (rs : List TableRow). rs ++ (new_row c.args.key.cluster c.args.key.number ws ∷ [])) c.make_room.ensures.rows)

pub returns-clause-records : goal.returns-clause-records
returns-clause-records c =
    let j = c.args.self.now in
    let ws = c.args.words.now in
    let after = keep_records (records_of j) (rows_of j) (new_row c.args.key.cluster c.args.key.number ws) in
    let free : keep_refusal (journal_model j) c.args.key.cluster c.args.key.number ws ≡ None = grind arith in
    c.append.ensures.records ∙ kept_records j c.args.key.cluster c.args.key.number ws _ c.make_room.ensures.records
    ∙ sym (ap (λ (why : Option StoreRefusal). unless_refused why (records_of j) after) free)
