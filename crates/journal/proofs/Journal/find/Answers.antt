-- rows are distinct, so the table holds what the first record under the key holds
use Rattle.std.proofs.Common.{ℕ, ◌+◌, ◌≤◌, List, Some, Option, vec_items, sym, ap, ◌∙◌, subst}
use Rattle.std.specs.Option.{option_map}
use Rattle.records.specs.declared.Held.{Held}
use Rattle.records.specs.Layout.{size_of, row_in}
use Rattle.journal.specs.State.{records_of}
use Rattle.journal.proofs.Holding.{laid_at}
use Rattle.journal.proofs.Steps.{found_at, found_none}
use Rattle.journal.proofs.Journal.find.Goals as goal

pub returns-in_err-i-clause-held : goal.returns-in_err-i-clause-held
returns-in_err-i-clause-held c =
    let j = c.args.self.now in
    let words : Held → List ℕ = λ h. (row_in (records_of j) h).words in
    (found_none j c.args.key.cluster c.args.key.number c.as_slice.ensures.value c.in_err-i.ensures).0 ∙ sym (ap (λ (o : Option Held). option_map words o) c.from_residual.ensures)

pub returns-clause-held : goal.returns-clause-held
returns-clause-held c =
    let j = c.args.self.now in
    (found_at j c.args.key.cluster c.args.key.number c.as_slice.ensures.value c.in_ok-i.ensures).1 c.index.result.now
    ∙ ap (λ (x : Held). Some (row_in (records_of j) x).words) (sym c.index.ensures)

pub returns-clause-within : goal.returns-clause-within
returns-clause-within c =
    let j = c.args.self.now in
    subst (λ (x : Held). x.at + size_of x.count ≤ j.used) (sym c.index.ensures)
    (laid_at 0 (vec_items j.held) c.in_ok-i.i c.index.result.now j.used j.sound.laid (found_at j c.args.key.cluster c.args.key.number c.as_slice.ensures.value c.in_ok-i.ensures).0)
