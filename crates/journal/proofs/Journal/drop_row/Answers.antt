-- the row is forgotten first; then either an X is noted or the records are moved together
use Rattle.std.proofs.Common.{◌∙◌}
use Rattle.journal.proofs.Steps.{dropped_model}
use Rattle.journal.proofs.Journal.drop_row.Goals as goal

pub returns-in_err-forget-clause-after : goal.returns-in_err-forget-clause-after
returns-in_err-forget-clause-after c = dropped_model c.args.self.now _ c.args.key.cluster c.args.key.number c.forget.ensures.rows

pub returns-then-fits-clause-after : goal.returns-then-fits-clause-after
returns-then-fits-clause-after c =
    dropped_model c.args.self.now _ c.args.key.cluster c.args.key.number (c.note_drop.ensures.rows ∙ c.forget.ensures.rows)

pub returns-else-fits-clause-after : goal.returns-else-fits-clause-after
returns-else-fits-clause-after c =
    dropped_model c.args.self.now _ c.args.key.cluster c.args.key.number (c.squeeze.ensures.rows ∙ c.forget.ensures.rows)
