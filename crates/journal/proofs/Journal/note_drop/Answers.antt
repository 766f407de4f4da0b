-- bytes more behind the records change no row
use Rattle.records.specs.Encode.{drop_bytes}
use Rattle.journal.proofs.Steps.{note_step}
use Rattle.journal.proofs.Journal.note_drop.Goals as goal

pub invariant_of-self-clause-sound : goal.invariant_of-self-clause-sound
invariant_of-self-clause-sound c =
    (note_step c.args.self.now (drop_bytes c.args.key.cluster c.args.key.number) c.write_drop-self.ensures.end c.write_drop-self.ensures.front).1

pub returns-clause-rows : goal.returns-clause-rows
returns-clause-rows c =
    (note_step c.args.self.now (drop_bytes c.args.key.cluster c.args.key.number) c.write_drop-self.ensures.end c.write_drop-self.ensures.front).0
