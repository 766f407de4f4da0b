-- Keys of records are those of the rows that they stand for.
use Rattle.std.proofs.Common.{◌≡◌, ℕ, zero, suc, List, [], ◌∷◌, map, option_map, slice_get, refl}
use Rattle.std.specs.declared.cmp.Ordering.{Ordering}
use Rattle.store.specs.Table.{TableRow, key_of, row_at}
use Rattle.ordered.specs.Seek.{seek}

-- a search among records is one among the rows that they stand for
pub seek-map : {X Y K : Type 0} (cmp : K → K → Ordering) (key : Y → K) (f : X → Y) (xs : List X) (k : K) → seek cmp (λ x. key (f x)) xs k ≡ seek cmp key (map f xs) k
seek-map cmp key f [] k = refl
seek-map cmp key f (x ∷ xs) k = rw (seek-map cmp key f xs k)

-- the key at a position is that of the row there
pub key_map : {X : Type 0} (f : X → TableRow) (xs : List X) (i : ℕ) → option_map (λ x. key_of (f x)) (slice_get xs i) ≡ row_at (map f xs) i
key_map f [] i = refl
key_map f (x ∷ xs) zero = refl
key_map f (x ∷ xs) (suc i) = key_map f xs i
