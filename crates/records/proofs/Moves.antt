-- What was written behind a part that was written before.
use Rattle.std.proofs.Common.{◌≡◌, ℕ, List, ◌++◌, ap, ◌∙◌}
use Rattle.std.proofs.lemmas.List.{append_assoc}

pub joined_front : (a b c p q : List ℕ) → c ≡ b ++ q → b ≡ a ++ p → c ≡ a ++ (p ++ q)
joined_front a b c p q late early = late ∙ ap (λ front. front ++ q) early ∙ append_assoc a p q
