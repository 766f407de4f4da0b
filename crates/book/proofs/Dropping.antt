-- The rounds are dropped cluster by cluster.
use Rattle.std.proofs.Common.{◌≡◌, ℕ, ◌≤◌, List, [], ◌∷◌, ◌++◌, map, length, take, drop, None, refl, ap, ◌∙◌, ap₂}
use Rattle.std.proofs.lemmas.List.{take_all, drop_all, append-nil}
use Rattle.law.specs.Book.{Cluster as Group, with_round}
use Rattle.law.specs.Restarts.{drop_rounds}

-- a cluster with no round
abbrev pub quiet : Group → Group
quiet g = with_round g None

pub all_quiet : (gs : List Group) → map quiet gs ≡ drop_rounds gs
all_quiet [] = refl
all_quiet (g ∷ gs) = ap (λ (l : List Group). quiet g ∷ l) (all_quiet gs)

-- what was written over so many elements was written over all, past the last
pub over_all : {X : Type 0} (f : X → X) (xs : List X) (i : ℕ) → length xs ≤ i → map f (take i xs) ++ drop i xs ≡ map f xs
over_all {X} f xs i past =
    ap₂ (λ (front behind : List X). map f front ++ behind) (take_all i xs past) (drop_all i xs past) ∙ append-nil (map f xs)
