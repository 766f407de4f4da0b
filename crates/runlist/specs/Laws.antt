-- Writing and reading undo each other.
--
--   places_from   items with the offsets at which they lie, one behind another
--   whole_of      a reading that gives just these items, and that nothing ends
--   items_of      the items of a reading, without their offsets
--   ReadsBack     a list that was written from items reads back as exactly those items, each at its offset
--   WrittenAgain  an accepted list is, byte for byte, what the writer makes of its items
--   RoundTrip     both
use Rattle.std.specs.Prelude.{◌≡◌, ℕ, ◌+◌, ◌≤◌, List, [], ◌∷◌, length, None}
use Rattle.runlist.specs.Format.{Item}
use Rattle.runlist.specs.Lists.{Place, Reading, bytes, read_list, write_list}

abbrev pub places_from : ℕ → List Item → List Place
places_from at [] = []
places_from at (i ∷ is) = record { offset = at; item = i } ∷ places_from (at + length (bytes i)) is

abbrev pub items_of : List Place → List Item
items_of [] = []
items_of (p ∷ ps) = p.item ∷ items_of ps

-- a reading that gives just these items, and that nothing ends
abbrev pub whole_of : List Item → Reading
whole_of is = record { given = places_from 0 is; ended = None }

-- whatever the items are, and whatever room the buffer has
abbrev pub ReadsBack : Type 0
ReadsBack =
    (room : ℕ) (is : List Item) → (write_list room is).ended ≡ None
    → read_list (write_list room is).wrote ≡ whole_of is

-- in every buffer that has room for the list
abbrev pub WrittenAgain : Type 0
WrittenAgain =
    (room : ℕ) (list : List ℕ) → (read_list list).ended ≡ None → length list ≤ room
    → write_list room (items_of (read_list list).given) ≡ record { wrote = list; ended = None }

pub record RoundTrip : Type 0 where
  pub back : ReadsBack
  pub again : WrittenAgain
