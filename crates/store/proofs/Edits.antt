-- A list that shows another one is edited at the same place as that one.
use Rattle.std.proofs.Common.{◌≡◌, ℕ, suc, List, ◌∷◌, ◌++◌, map, take, drop, sym, ap, ◌∙◌}
use Rattle.std.proofs.lemmas.List.{map-append, take-map, drop-map}
use Rattle.std.specs.List.{insert, remove}

pub map_inserted : {X Y : Type 0} (f : X → Y) (xs : List X) (i : ℕ) (x : X) → map f (insert xs i x) ≡ insert (map f xs) i (f x)
map_inserted f xs i x =
    map-append f (take i xs) (x ∷ drop i xs)
    ∙ ap (λ front. front ++ (f x ∷ map f (drop i xs))) (sym (take-map f i xs))
    ∙ ap (λ back. take i (map f xs) ++ (f x ∷ back)) (sym (drop-map f i xs))

pub map_removed : {X Y : Type 0} (f : X → Y) (xs : List X) (i : ℕ) → map f (remove xs i) ≡ remove (map f xs) i
map_removed f xs i =
    map-append f (take i xs) (drop (suc i) xs)
    ∙ ap (λ front. front ++ map f (drop (suc i) xs)) (sym (take-map f i xs))
    ∙ ap (λ back. take i (map f xs) ++ back) (sym (drop-map f (suc i) xs))
