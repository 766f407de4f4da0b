-- the row at a position is read whole, and goes behind those before it
use Rattle.std.proofs.Common.{◌≡◌, ◌-◌, take, replicate, ap, ◌∙◌, arith}
use Rattle.moves.proofs.Moving.{row_there, read_there, copied}
use Rattle.moves.proofs.copy_row.Goals as goal

pub unreachable-requires : goal.unreachable-requires
unreachable-requires g c =
    row_there (g.F.Store.model c.args.from.now).table c.args.at c.in_default.field-0 c.requires.within c.in_default.ensures

pub unreachable-requires-in_default-read : goal.unreachable-requires-in_default-read
unreachable-requires-in_default-read g c =
    read_there (g.F.Store.model c.args.from.now) (g.met.F.Store.formed c.args.from.now) c.args.at c.requires.within c.in-Ok.key
    c.in-Ok.ensures 32 _ c.in_default-read.field-0 (omega arith) c.in_default-read.ensures.answer

pub returns : goal.returns
returns g c =
    let count = c.in-Ok-read.count in
    let ws = take (count - 0) c.read.new.buffer in
    let cut : ws ≡ take count c.read.new.buffer = ap (λ k. take k c.read.new.buffer) (omega arith) in
    c.keep.ensures.after
    ∙ copied (g.F.Store.model c.args.from.now) (g.met.F.Store.formed c.args.from.now) c.args.at c.requires.within c.in-Ok.key
    c.in-Ok.ensures (g.T.Store.model c.args.to.now) count (replicate 32 0) c.read.new.buffer ws
    c.requires.fits c.requires.front c.in-Ok-read.ensures.answer c.read.ensures.buffer cut
