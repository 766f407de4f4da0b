-- a sorted table is as long as the rows that it was made of
use Rattle.std.proofs.Common.{sym, ◌∙◌}
use Rattle.journal.proofs.Steps.{held_rows}
use Rattle.journal.proofs.JournalStore.count.Goals as goal

pub returns-clause-answer : goal.returns-clause-answer
returns-clause-answer c = c.len.ensures ∙ sym (held_rows c.args.self.now)
