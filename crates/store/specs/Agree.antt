-- When two tables agree.
--
--   Agree     they hold the same pairs of cluster and number
--   agreeing  they have, row by row, the same cluster and number
--   same_key  the same of two rows, where both are there
use Rattle.std.specs.Prelude.{◌≡◌, ℕ, Bool, true, false, List, [], ◌∷◌, is_some, Some, None, Option}
use Rattle.store.specs.declared.RowKey.{RowKey}
use Rattle.store.specs.Table.{TableRow, both, under, lookup}
use Rattle.store.specs.Seek.{same}

abbrev pub Agree : List TableRow → List TableRow → Type 0
Agree a b = (c n : ℕ) → is_some (lookup a c n) ≡ is_some (lookup b c n)

abbrev pub agreeing : List TableRow → List TableRow → Bool
agreeing [] [] = true
agreeing [] (y ∷ ys) = false
agreeing (x ∷ xs) [] = false
agreeing (x ∷ xs) (y ∷ ys) = both (under x.cluster x.number y) (agreeing xs ys)

abbrev pub same_key : Option RowKey → Option RowKey → Bool
same_key None b = false
same_key (Some x) None = false
same_key (Some x) (Some y) = same x.cluster x.number y
