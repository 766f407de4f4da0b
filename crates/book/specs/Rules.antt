-- What holds of a book between two calls, so that no sum wraps, no index is out of range and no memory is wanted. Nothing
-- here names the book or its clusters, so that their types can state it.
--
--   topped       each checkpoint has its number as its row's own entry, and none is above the cluster's number
--   is_between   two different clusters of a federation
--   addressed    each message goes between two different clusters of the federation
--   ids_below    no id is given twice: all in the log are below the next
--   can_end      a round that is open can end: there is room for its checkpoint, and a number
use Rattle.std.specs.Prelude.{ℕ, Bool, true, false, not, List, [], ◌∷◌, ◌==◌, nat_le, nat_lt}
use Rattle.store.specs.Table.{both}
use Rattle.law.specs.declared.Logged.{Logged}
use Rattle.law.specs.declared.Checkpoint.{Checkpoint}
use Rattle.law.specs.Book.{entry, most_kept, last_number}

abbrev pub number_of : Checkpoint → ℕ
number_of c = c.number

abbrev pub id_of : Logged → ℕ
id_of m = m.message.id

abbrev pub topped : ℕ → ℕ → List Checkpoint → Bool
topped i top [] = true
topped i top (c ∷ cs) = both (both (entry c.row i == c.number) (nat_le c.number top)) (topped i top cs)

-- two different clusters of n
abbrev pub is_between : ℕ → ℕ → ℕ → Bool
is_between n i j = both (both (nat_lt i n) (nat_lt j n)) (not (i == j))

abbrev pub between : ℕ → Logged → Bool
between n m = is_between n m.message.from m.message.to

abbrev pub addressed : ℕ → List Logged → Bool
addressed n [] = true
addressed n (m ∷ ms) = both (between n m) (addressed n ms)

abbrev pub ids_below : ℕ → List Logged → Bool
ids_below next [] = true
ids_below next (m ∷ ms) = both (nat_lt m.message.id next) (ids_below next ms)

abbrev pub can_end : Bool → ℕ → ℕ → Bool
can_end true kept number = both (nat_lt kept most_kept) (nat_lt number last_number)
can_end false kept number = true
