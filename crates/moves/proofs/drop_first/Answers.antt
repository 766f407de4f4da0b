-- there is a row at position 0, since the table is not empty
use Rattle.moves.proofs.Moving.{row_there}
use Rattle.moves.proofs.drop_first.Goals as goal

pub unreachable-requires : goal.unreachable-requires
unreachable-requires g c = row_there (g.S.Store.model c.args.store.now).table 0 c.in_default.field-0 c.requires c.in_default.ensures
