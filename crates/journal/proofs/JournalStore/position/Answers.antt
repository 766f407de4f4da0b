-- the index shows the rows in the order of the table
use Rattle.std.proofs.Common.{List, Option, option_map, slice_get, vec_items, ap, ◌∙◌}
use Rattle.std.specs.Option.{ok_or}
use Rattle.refusal.specs.declared.StoreRefusal.TheVariants.{WordCount}
use Rattle.store.specs.declared.RowKey.{RowKey}
use Rattle.store.specs.Table.{TableRow, row_at}
use Rattle.store.proofs.Seeking.{key_map}
use Rattle.records.specs.declared.Held.{Held}
use Rattle.records.specs.Layout.{row_in}
use Rattle.records.specs.Order.{held_key}
use Rattle.journal.specs.State.{records_of}
use Rattle.journal.proofs.JournalStore.position.Goals as goal

pub returns : goal.returns
returns c =
    let j = c.args.self.now in
    c.ok_or.ensures.value
    ∙ ap (λ (key : Option RowKey). ok_or key WordCount)
    (c.key_at.ensures
    ∙ ap (λ (xs : List Held). option_map held_key (slice_get xs c.args.at)) c.as_slice.ensures.value
    ∙ key_map (row_in (records_of j)) (vec_items j.index) c.args.at
    ∙ ap (λ (rows : List TableRow). row_at rows c.args.at) (j.sound.shown (records_of j)))
