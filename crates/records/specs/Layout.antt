-- Where the records of kept rows lie among the bytes of a journal.
--
--   size_of  the bytes of a kept row's record
--   part     a record's bytes; parts those of several, one behind another
--   row_in   the row that a record holds
--   relaid   the same records, one behind another from a place on
--   total    the bytes of several records
--   Laid     records stand in their order, none over another, between two places
use Rattle.std.specs.Prelude.{ℕ, ◌+◌, ◌*◌, ◌≤◌, List, [], ◌∷◌, ◌++◌, take, drop}
use Rattle.store.specs.Table.{TableRow}
use Rattle.records.specs.declared.Held.{Held}
use Rattle.records.specs.Encode.{words_in}

abbrev pub size_of : ℕ → ℕ
size_of count = 7 + 8 * count

abbrev pub part : List ℕ → Held → List ℕ
part bytes h = take (size_of h.count) (drop h.at bytes)

abbrev pub parts : List ℕ → List Held → List ℕ
parts bytes [] = []
parts bytes (h ∷ hs) = part bytes h ++ parts bytes hs

-- what a record's bytes hold
abbrev pub row_from : Held → List ℕ → TableRow
row_from h bytes = record { cluster = h.key.cluster; number = h.key.number; words = words_in h.count (drop 7 bytes) }

abbrev pub row_in : List ℕ → Held → TableRow
row_in bytes h = row_from h (part bytes h)

abbrev pub moved : Held → ℕ → Held
moved h at = record { key = h.key; at = at; count = h.count }

abbrev pub relaid : ℕ → List Held → List Held
relaid from [] = []
relaid from (h ∷ hs) = moved h from ∷ relaid (from + size_of h.count) hs

abbrev pub total : List Held → ℕ
total [] = 0
total (h ∷ hs) = size_of h.count + total hs

abbrev pub Laid : ℕ → List Held → ℕ → Type 0
Laid from [] end = from ≤ end
Laid from (h ∷ hs) end = (from ≤ h.at) × Laid (h.at + size_of h.count) hs end
