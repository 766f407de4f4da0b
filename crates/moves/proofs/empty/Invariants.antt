-- rows that are left
use Rattle.std.proofs.Common.{◌≡◌, length}
use Rattle.store.specs.Table.{with_table}
use Rattle.moves.proofs.empty.Given as goal

-- nothing but the table has changed
abbrev pub invariant-loop-store : goal.invariant-loop-store
invariant-loop-store g l =
    g.S.Store.model l.store ≡ with_table (g.S.Store.model l.initial.store) (g.S.Store.model l.store).table

abbrev pub decreases-loop-store : goal.decreases-loop-store
decreases-loop-store g l = length (g.S.Store.model l.store).table
