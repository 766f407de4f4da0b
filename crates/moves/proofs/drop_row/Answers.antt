-- a table without a row is no longer than it was
use Rattle.std.proofs.Common.{length, ap, arith}
use Rattle.store.specs.Table.{Model}
use Rattle.store.proofs.Tables.{length-remove_le}
use Rattle.moves.proofs.drop_row.Goals as goal

pub returns : goal.returns
returns g c =
    let rows = (g.S.Store.model c.args.store.now).table in
    let fewer = length-remove_le rows c.args.key.cluster c.args.key.number in
    let same = ap (λ (m : Model). length m.table) c.discard.ensures.after in
    record {
      answer = c.discard.ensures.answer;
      after = c.discard.ensures.after;
      short = omega arith;
    }
