-- Where a key stands in a list of records, or where it would go. Keys are compared by any total order.
--
--   seek       the place of the first record whose key is not below the one sought: Ok where it has that key, else Err
--   onward     the same answer, seen from one record before
--   leads      a record's key is below that of the first of the others
--   ascending  each key is below the next
--   Sought     what the answer means in an ascending list
use Rattle.std.specs.Prelude.{◌≡◌, ℕ, suc, ◌<◌, ◌≤◌, Bool, true, ◌&&◌, List, [], ◌∷◌, length, Ok, Err, Result}
use Rattle.std.specs.List.{HoldsAt, AllWithin}
use Rattle.std.specs.declared.cmp.Ordering.{Ordering}
use Rattle.std.specs.declared.cmp.Ordering.TheVariants.{Less, Equal, Greater}
use Rattle.std.specs.Ordering.{is_lt}

abbrev pub onward : Result ℕ ℕ → Result ℕ ℕ
onward (Ok i) = Ok (suc i)
onward (Err i) = Err (suc i)

-- a record whose key compares so with the one sought, and what the others behind it answer
abbrev pub stands : Ordering → Result ℕ ℕ → Result ℕ ℕ
stands Less behind = onward behind
stands Equal behind = Ok 0
stands Greater behind = Err 0

module _ {X K : Type 0} (cmp : K → K → Ordering) (key : X → K) where
  abbrev pub seek : List X → K → Result ℕ ℕ
  seek [] k = Err 0
  seek (x ∷ xs) k = stands (cmp (key x) k) (seek xs k)

  -- the key of x is below that of the first of xs, if there is one
  abbrev pub leads : X → List X → Bool
  leads x [] = true
  leads x (y ∷ ys) = is_lt (cmp (key x) (key y))

  abbrev pub ascending : List X → Bool
  ascending [] = true
  ascending (x ∷ xs) = leads x xs && ascending xs

  -- at Ok stands a record with the key; at Err none has it, and the key goes between those before and those from there on
  abbrev pub Sought : List X → K → Result ℕ ℕ → Type 0
  Sought xs k (Ok i) = (i < length xs) × HoldsAt (λ x. cmp (key x) k ≡ Equal) xs i
  Sought xs k (Err i) = (i ≤ length xs) × AllWithin (λ x. cmp (key x) k ≡ Less) xs 0 i × AllWithin (λ x. cmp (key x) k ≡ Greater) xs i (length xs)
