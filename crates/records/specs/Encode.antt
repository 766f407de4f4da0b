-- The bytes of a journal's records. Every number stands with its high byte first.
--
--   keep_bytes  a row that is kept: K, cluster (1), number (4), word count (1), words (8 each)
--   drop_bytes  a row that is dropped: X, cluster (1), number (4)
--   rows_bytes  the records of kept rows, one behind another
--   word        the number in 8 bytes
--   words_in    so many numbers, from bytes that stand one behind another
use Rattle.std.specs.Prelude.{ℕ, zero, suc, ◌+◌, ◌*◌, ◌/◌, ◌%◌, List, [], ◌∷◌, ◌++◌, length, drop, slice_index}
use Rattle.store.specs.Table.{TableRow}

abbrev pub be4 : ℕ → List ℕ
be4 n = (n / 16777216 % 256) ∷ (n / 65536 % 256) ∷ (n / 256 % 256) ∷ (n % 256) ∷ []

abbrev pub be8 : ℕ → List ℕ
be8 n =
    (n / 72057594037927936 % 256) ∷ (n / 281474976710656 % 256) ∷ (n / 1099511627776 % 256) ∷ (n / 4294967296 % 256)
    ∷ (n / 16777216 % 256) ∷ (n / 65536 % 256) ∷ (n / 256 % 256) ∷ (n % 256) ∷ []

abbrev pub words_bytes : List ℕ → List ℕ
words_bytes [] = []
words_bytes (w ∷ ws) = be8 w ++ words_bytes ws

-- 75 is K
abbrev pub keep_bytes : TableRow → List ℕ
keep_bytes row = 75 ∷ row.cluster ∷ (be4 row.number ++ (length row.words ∷ words_bytes row.words))

-- 88 is X
abbrev pub drop_bytes : ℕ → ℕ → List ℕ
drop_bytes c n = 88 ∷ c ∷ be4 n

abbrev pub rows_bytes : List TableRow → List ℕ
rows_bytes [] = []
rows_bytes (row ∷ rows) = keep_bytes row ++ rows_bytes rows

abbrev pub word : List ℕ → ℕ
word bs =
    slice_index bs 0 * 72057594037927936 + slice_index bs 1 * 281474976710656 + slice_index bs 2 * 1099511627776 + slice_index bs 3 * 4294967296
    + slice_index bs 4 * 16777216 + slice_index bs 5 * 65536 + slice_index bs 6 * 256 + slice_index bs 7

abbrev pub words_in : ℕ → List ℕ → List ℕ
words_in zero bs = []
words_in (suc k) bs = word bs ∷ words_in k (drop 8 bs)
