-- rows copied so far
use Rattle.std.proofs.Common.{◌≡◌, take}
use Rattle.store.specs.Table.{with_table}
use Rattle.moves.proofs.fill.Given as goal

-- the rows before this position have come over
abbrev pub invariant-loop-at : goal.invariant-loop-at
invariant-loop-at g l =
    g.T.Store.model l.to ≡ with_table (g.T.Store.model l.initial.to) (take l.at (g.F.Store.model l.from).table)
