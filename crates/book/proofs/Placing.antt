-- Clusters stand at their own positions, and still do when one is changed or one comes to the end.
use Rattle.std.proofs.Common.{◌≡◌, ℕ, zero, suc, ◌+◌, ◌<◌, true, Bool, List, [], ◌∷◌, ◌++◌, length, get_or, set, refl, ap, ◌∙◌, arith}
use Rattle.std.proofs.lemmas.Bool.{eq-eqb, eqb-true}
use Rattle.store.specs.Table.{both}
use Rattle.store.proofs.Orders.{both_true}
use Rattle.book.specs.declared.cluster.Cluster.{Cluster}
use Rattle.book.specs.Placed.{placed}

pub both_is : (a b : Bool) → a ≡ true → b ≡ true → both a b ≡ true
both_is a b p q = ap (λ (z : Bool). both z b) p ∙ q

-- a cluster read at a position has it as its own
pub own_at : (k : ℕ) (cs : List Cluster) (i : ℕ) (c : Cluster) → placed k cs ≡ true → i < length cs → c ≡ get_or cs i c → c.own ≡ k + i
own_at k [] i c t within read = absurd (omega arith)
own_at k (x ∷ cs) zero c t within read = ap (λ (z : Cluster). z.own) read ∙ eqb-true _ _ (both_true _ _ t).0 ∙ omega arith
own_at k (x ∷ cs) (suc i) c t within read = own_at (suc k) cs i c (both_true _ _ t).1 (omega arith) read ∙ omega arith

pub placed_set : (k : ℕ) (cs : List Cluster) (i : ℕ) (was new : Cluster) → placed k cs ≡ true → i < length cs → was ≡ get_or cs i was → new.own ≡ was.own → placed k (set cs i new) ≡ true
placed_set k [] i was new t within read same = absurd (omega arith)
placed_set k (x ∷ cs) zero was new t within read same =
    let p = both_true _ _ t in
    both_is _ _ (eq-eqb _ _ (same ∙ ap (λ (z : Cluster). z.own) read ∙ eqb-true _ _ p.0)) p.1
placed_set k (x ∷ cs) (suc i) was new t within read same =
    let p = both_true _ _ t in
    both_is _ _ p.0 (placed_set (suc k) cs i was new p.1 (omega arith) read same)

pub placed_push : (k : ℕ) (cs : List Cluster) (c : Cluster) → placed k cs ≡ true → c.own ≡ k + length cs → placed k (cs ++ (c ∷ [])) ≡ true
placed_push k [] c t own = both_is _ _ (eq-eqb _ _ (own ∙ omega arith)) refl
placed_push k (x ∷ cs) c t own =
    let p = both_true _ _ t in
    both_is _ _ p.0 (placed_push (suc k) cs c p.1 (own ∙ omega arith))

-- within the list there is something to read
pub read_at : {X : Type 0} (xs : List X) (i : ℕ) → i < length xs → (x : X) × (x ≡ get_or xs i x)
read_at [] i h = absurd (omega arith)
read_at (x ∷ xs) zero h = (x, refl)
read_at (x ∷ xs) (suc i) h = read_at xs i (omega arith)
