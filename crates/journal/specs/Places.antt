-- What the bytes of a journal and the places of its records have to be. Nothing here names the journal itself,
-- so that its type can state it.
--
--   Distinct  no two rows stand under one cluster and number
--   Lie       each held row's record stands where it is said to
--   Few       each has at most 32 words
--   Sound     all of that of the bytes of records and the places in them, and their rows make a formed table
use Rattle.std.specs.Prelude.{◌≡◌, ℕ, ◌+◌, ◌≤◌, List, [], ◌∷◌, map, None}
use Rattle.std.proofs.Props.{props}
use Rattle.store.specs.Table.{TableRow, Model, lookup}
use Rattle.store.specs.Formed.{Formed}
use Rattle.records.specs.declared.Held.{Held}
use Rattle.records.specs.Encode.{keep_bytes}
use Rattle.records.specs.Layout.{size_of, part, row_in, Laid}
use Rattle.records.specs.Order.{sort_rows}

abbrev pub Distinct : List TableRow → Type 0
Distinct [] = Unit {0}
Distinct (row ∷ rows) = (lookup rows row.cluster row.number ≡ None) × Distinct rows

abbrev pub Lie : List ℕ → List Held → Type 0
Lie bytes [] = Unit {0}
Lie bytes (h ∷ hs) = (part bytes h ≡ keep_bytes (row_in bytes h)) × Lie bytes hs

abbrev pub Few : List Held → Type 0
Few [] = Unit {0}
Few (h ∷ hs) = (h.count ≤ 32) × Few hs

-- rows as a table, 64 at most, with no sides
abbrev pub table_of : List TableRow → Model
table_of rows = record { table = sort_rows rows; capacity = 64; full = 0 }

pub record Sound (bytes : List ℕ) (end : ℕ) (held index : List Held) : Type 0 where
  pub laid : Laid 0 held end
  pub lie : Lie bytes held
  pub few : Few held
  pub distinct : Distinct (map (row_in bytes) held)
  pub formed : Formed (table_of (map (row_in bytes) held))
  -- the index shows the same rows in order, whatever the bytes are
  pub shown : (xs : List ℕ) → map (row_in xs) index ≡ sort_rows (map (row_in xs) held)

-- a fact in a type has to have one proof at most
distinct_prop : (rows : List TableRow) → IsProp (Distinct rows)
distinct_prop [] = hlevel props
distinct_prop (row ∷ rows) = hlevel (props, distinct_prop rows)

lie_prop : (bytes : List ℕ) (hs : List Held) → IsProp (Lie bytes hs)
lie_prop bytes [] = hlevel props
lie_prop bytes (h ∷ hs) = hlevel (props, lie_prop bytes hs)

few_prop : (hs : List Held) → IsProp (Few hs)
few_prop [] = hlevel props
few_prop (h ∷ hs) = hlevel (props, few_prop hs)

laid_prop : (hs : List Held) (from end : ℕ) → IsProp (Laid from hs end)
laid_prop [] from end = hlevel props
laid_prop (h ∷ hs) from end = hlevel (props, laid_prop hs (h.at + size_of h.count) end)

pub sound_prop : (bytes : List ℕ) (end : ℕ) (held index : List Held) → IsProp (Sound bytes end held index)
sound_prop bytes end held index =
    hlevel (props, laid_prop held 0 end, lie_prop bytes held, few_prop held, distinct_prop (map (row_in bytes) held))
