-- What passes a test in the first so many items: one item more adds itself behind the others, or nothing.
use Rattle.std.proofs.Common.{◌≡◌, ℕ, ◌+◌, ◌<◌, ◌≤◌, Bool, true, false, List, [], ◌∷◌, ◌++◌, map, length, get_or, take, filter, sym, ap, ◌∙◌, arith}
use Rattle.std.proofs.lemmas.List.{map_push, append-nil, length-map, length-take}
use Rattle.std.proofs.lemmas.List.Elements.{filter_more}
use Rattle.std.proofs.lemmas.Bool.{cond-true, cond-false}
use Rattle.law.proofs.Prune.{length_kept}

module _ {X Y : Type 0} (f : X → Y) (p : X → Bool) (xs : List X) (i : ℕ) where
  abbrev picked : ℕ → List Y
  picked n = map f (filter p (take n xs))

  pub picked_few : length (picked i) ≤ i
  picked_few =
      let a = length-map (filter p (take i xs)) f in
      let b = length_kept p (take i xs) in
      let c = length-take i xs in
      omega arith

  pub picked_more : (ys : List Y) (d : X) → ys ≡ picked i → i < length xs → p (get_or xs i d) ≡ true → ys ++ (f (get_or xs i d) ∷ []) ≡ picked (i + 1)
  picked_more ys d was h t =
      ap (λ (z : List Y). z ++ (f (get_or xs i d) ∷ [])) was
      ∙ sym (ap (map f) (filter_more p xs i d h ∙ ap (λ (z : List X). filter p (take i xs) ++ z) (cond-true _ _ _ t))
      ∙ map_push f (filter p (take i xs)) (get_or xs i d))

  pub picked_same : (ys : List Y) (d : X) → ys ≡ picked i → i < length xs → p (get_or xs i d) ≡ false → ys ≡ picked (i + 1)
  picked_same ys d was h t =
      was
      ∙ sym (ap (map f) (filter_more p xs i d h ∙ ap (λ (z : List X). filter p (take i xs) ++ z) (cond-false _ _ _ t) ∙ append-nil (filter p (take i xs))))
