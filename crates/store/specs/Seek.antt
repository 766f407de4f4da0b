-- How the keys of rows compare.
--
--   ahead      a cluster and number come before a key
--   same       they are the key
--   row_order  how two keys compare: by cluster, then number
use Rattle.std.specs.Prelude.{ℕ, Bool, ◌==◌, nat_lt}
use Rattle.std.specs.declared.cmp.Ordering.{Ordering}
use Rattle.std.specs.Ordering.{nat_cmp, ordering_then}
use Rattle.store.specs.declared.RowKey.{RowKey}
use Rattle.store.specs.Table.{both, either}

abbrev pub ahead : ℕ → ℕ → RowKey → Bool
ahead c n key = either (nat_lt c key.cluster) (both (c == key.cluster) (nat_lt n key.number))

abbrev pub same : ℕ → ℕ → RowKey → Bool
same c n key = both (key.cluster == c) (key.number == n)

abbrev pub row_order : RowKey → RowKey → Ordering
row_order a b = ordering_then (nat_cmp a.cluster b.cluster) (nat_cmp a.number b.number)
