-- What holds of every table that a sound store means.
--
--   rising  the rows stand in order of cluster, then number, each pair once
--   sized   every row has 1 to 32 words
--   Formed  a table is rising and sized, and no longer than the capacity
use Rattle.std.specs.Prelude.{◌≡◌, ℕ, ◌≤◌, Bool, true, List, [], ◌∷◌, length}
use Rattle.store.specs.Table.{TableRow, Model, both, before, words_fit}

-- this cluster and number come before the first row, if there is one
abbrev pub leads : ℕ → ℕ → List TableRow → Bool
leads c n [] = true
leads c n (row ∷ rows) = before c n row

abbrev pub rising : List TableRow → Bool
rising [] = true
rising (row ∷ rows) = both (leads row.cluster row.number rows) (rising rows)

abbrev pub sized : List TableRow → Bool
sized [] = true
sized (row ∷ rows) = both (words_fit (length row.words)) (sized rows)

pub record Formed (m : Model) : Type 0 where
  pub short : length m.table ≤ m.capacity
  pub rising : rising m.table ≡ true
  pub sized : sized m.table ≡ true
