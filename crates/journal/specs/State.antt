-- What a journal holds, and how keep and drop change its records.
--
--   records_of     the bytes of the records; what lies behind them is free
--   rows_of        the rows that are held, oldest first
--   journal_model  the same rows as a table, 64 at most, with no sides
--   keep_records   the records after a row is kept: its K behind them, or, where that does not fit, only the Ks held
--   drop_records   the records after a row is dropped: an X behind them, or, where that does not fit, only the Ks held
use Rattle.std.specs.Prelude.{ℕ, ◌+◌, cond, List, ◌++◌, map, length, take, vec_items, nat_le}
use Rattle.store.specs.Table.{TableRow, Model, remove}
use Rattle.records.specs.Encode.{keep_bytes, drop_bytes, rows_bytes}
use Rattle.records.specs.Layout.{row_in}
use Rattle.journal.specs.declared.Journal.{Journal}
use Rattle.journal.specs.Places.{table_of}

abbrev pub records_of : Journal → List ℕ
records_of j = take j.used j.bytes.now

abbrev pub rows_of : Journal → List TableRow
rows_of j = map (row_in (records_of j)) (vec_items j.held)

abbrev pub journal_model : Journal → Model
journal_model j = table_of (rows_of j)

abbrev pub keep_records : List ℕ → List TableRow → TableRow → List ℕ
keep_records records rows row =
    cond (nat_le (length records + length (keep_bytes row)) 16832) (records ++ keep_bytes row) (rows_bytes rows ++ keep_bytes row)

abbrev pub drop_records : List ℕ → List TableRow → ℕ → ℕ → List ℕ
drop_records records rows c n =
    cond (nat_le (length records + 6) 16832) (records ++ drop_bytes c n) (rows_bytes (remove rows c n))
