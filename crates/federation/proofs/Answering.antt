-- A store that took the words refused nothing; and what the answers of a round count and give.
use Rattle.std.proofs.Common.{◌≡◌, ℕ, suc, ◌≤◌, cond, List, [], ◌∷◌, map, length, sum_by, slice_index, slice_index_or, EachIndex, unwrap_or, is_some, Some, None, Ok, Option, Result, refl, ap₂, arith}
use Rattle.std.proofs.lemmas.List.Sums.{sum_by-cons}
use Rattle.refusal.specs.declared.StoreRefusal.{StoreRefusal}
use Rattle.refusal.specs.Answers.{replied}
use Rattle.law.specs.Book.{or_zero}
use Rattle.law.specs.Rounds.{from_store, missing}

-- what a store's keep answers
abbrev Answer : Result (Unit {0}) StoreRefusal → Option StoreRefusal → Type 0
Answer told o = told ≡ replied o tt

pub kept_none : (o : Option StoreRefusal) → Answer (Ok tt) o → from_store o ≡ None
kept_none None e = refl
kept_none (Some why) e = let z : ◌≡◌ {A = ℕ} 0 1 = cc in absurd (omega arith)

-- as many answers lack as are none
pub lacking_sum : (xs : List (Option ℕ)) → sum_by (λ o. cond (is_some o) 0 1) xs ≡ missing xs
lacking_sum [] = refl
lacking_sum (Some w ∷ xs) = let rest = lacking_sum xs in let all = sum_by-cons (λ o. cond (is_some o) 0 1) (Some w) xs in omega arith
lacking_sum (None ∷ xs) = let rest = lacking_sum xs in let all = sum_by-cons (λ o. cond (is_some o) 0 1) None xs in omega arith

pub lacking_few : (xs : List (Option ℕ)) → missing xs ≤ length xs
lacking_few [] = omega arith
lacking_few (Some w ∷ xs) = let rest = lacking_few xs in omega arith
lacking_few (None ∷ xs) = let rest = lacking_few xs in omega arith

-- the words that stand for answers, place by place
pub words_are : (ws : List ℕ) (xs : List (Option ℕ)) → length xs ≡ length ws → EachIndex ws (λ i. slice_index ws i ≡ unwrap_or (slice_index_or xs i None) 0) → ws ≡ map or_zero xs
words_are [] [] same h = refl
words_are [] (x ∷ xs) same h = absurd (omega arith)
words_are (w ∷ ws) [] same h = absurd (omega arith)
words_are (w ∷ ws) (Some v ∷ xs) same h = ap₂ (λ (a : ℕ) (l : List ℕ). a ∷ l) (h 0 (omega arith)) (words_are ws xs (omega arith) (λ i k. h (suc i) (omega arith)))
words_are (w ∷ ws) (None ∷ xs) same h = ap₂ (λ (a : ℕ) (l : List ℕ). a ∷ l) (h 0 (omega arith)) (words_are ws xs (omega arith) (λ i k. h (suc i) (omega arith)))
