-- The row that a slot holds.
use Rattle.store.specs.Table.{TableRow}
use Rattle.slots.specs.declared.slot.Slot.{Slot}

abbrev pub row_of : Slot → TableRow
row_of slot = record { cluster = slot.key.cluster; number = slot.key.number; words = slot.words.items }
