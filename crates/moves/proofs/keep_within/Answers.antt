-- below the limit a keep adds one row at most
use Rattle.std.proofs.Common.{length, ap, arith}
use Rattle.store.specs.Table.{Model}
use Rattle.store.proofs.Tables.{length_keep_le}
use Rattle.moves.proofs.keep_within.Goals as goal

pub returns-then-count-limit-clause-short : goal.returns-then-count-limit-clause-short
returns-then-count-limit-clause-short g c within =
    let m = g.S.Store.model c.args.store.now in
    let longer = length_keep_le m c.args.key.cluster c.args.key.number c.args.words.now in
    let same = ap (λ (after : Model). length after.table) c.keep.ensures.after in
    omega arith
