-- In an ascending list the search finds the first record with its key, since every record behind has a larger one.
use Rattle.std.proofs.Common.{◌≡◌, ℕ, ◌<◌, true, cond, eqb, List, [], ◌∷◌, length, get_or, Some, None, Ok, Err, Option, Result, sym, refl, ap, ◌∙◌, subst, arith}
use Rattle.std.specs.Result.{result_ok}
use Rattle.std.proofs.lemmas.Bool.{cond-true, cond-false, eq-eqb, ne_eqb, and_parts}
use Rattle.std.specs.declared.cmp.Ordering.{Ordering}
use Rattle.std.specs.declared.cmp.Ordering.TheVariants.{Less, Equal, Greater}
use Rattle.std.specs.Cmp.{ranks}
use Rattle.std.specs.Ordering.{nat_cmp, MatchOrdering}
use Rattle.ordered.proofs.Seeking.{below-lt}
use Rattle.ordered.specs.Seek.{stands, seek, onward, leads, ascending, Sought}
use Rattle.law.specs.declared.Checkpoint.{Checkpoint}
use Rattle.law.specs.declared.Logged.{Logged}
use Rattle.law.specs.Book.{checkpoint_at, logged}
use Rattle.book.specs.Rules.{number_of, id_of}
use Rattle.book.specs.Finding.{LoggedAt}

-- the first record with this key
abbrev pub first : {X : Type 0} → (X → ℕ) → List X → ℕ → Option X
first key [] k = None
first key (x ∷ xs) k = cond (eqb (key x) k) (Some x) (first key xs k)

-- the record at the place that a search tells, if it tells one
abbrev pub told_at : {X : Type 0} → List X → X → Option ℕ → Option X
told_at xs d (Some i) = Some (get_or xs i d)
told_at xs d None = None

module _ {X : Type 0} (key : X → ℕ) where
  none_above : (x : X) (xs : List X) (k : ℕ) → ascending nat_cmp key (x ∷ xs) ≡ true → k < key x → first key xs k ≡ None
  none_above x [] k up lt = refl
  none_above x (y ∷ ys) k up lt =
      let parts = and_parts (leads nat_cmp key x (y ∷ ys)) (ascending nat_cmp key (y ∷ ys)) up in
      let more : key x < key y = below-lt (key x) (key y) parts.0 in
      cond-false (eqb (key y) k) _ _ (ne_eqb (key y) k (λ e. omega arith)) ∙ none_above y ys k parts.1 (omega arith)

  step-told : (x : X) (xs : List X) (d : X) (r : Result ℕ ℕ) → told_at (x ∷ xs) d (result_ok (onward r)) ≡ told_at xs d (result_ok r)
  step-told x xs d (Ok i) = refl
  step-told x xs d (Err i) = refl

  seek_first : (xs : List X) (k : ℕ) (d : X) → ascending nat_cmp key xs ≡ true → first key xs k ≡ told_at xs d (result_ok (seek nat_cmp key xs k))
  seek_first [] k d up = refl
  seek_first (x ∷ xs) k d up = by_order (nat_cmp (key x) k) (ranks (key x) k) (seek_first xs k d (and_parts (leads nat_cmp key x xs) (ascending nat_cmp key xs) up).1)
    where
      by_order : (o : Ordering) → MatchOrdering o (key x < k) (key x ≡ k) (k < key x) → first key xs k ≡ told_at xs d (result_ok (seek nat_cmp key xs k)) → first key (x ∷ xs) k ≡ told_at (x ∷ xs) d (result_ok (stands o (seek nat_cmp key xs k)))
      by_order Less lt rest =
          cond-false (eqb (key x) k) _ _ (ne_eqb (key x) k (λ e. omega arith)) ∙ rest ∙ sym (step-told x xs d (seek nat_cmp key xs k))
      by_order Equal e rest = cond-true _ _ _ (eq-eqb _ _ e)
      by_order Greater gt rest = cond-false (eqb (key x) k) _ _ (ne_eqb (key x) k (λ e. omega arith)) ∙ none_above x xs k up (omega arith)

  -- the same of an answer whose place is the search's
  first_told : (xs : List X) (k : ℕ) (d : X) (r : Result ℕ ℕ) (o : Option ℕ) → r ≡ seek nat_cmp key xs k → o ≡ result_ok r → ascending nat_cmp key xs ≡ true → first key xs k ≡ told_at xs d o
  first_told xs k d r o e is up = seek_first xs k d up ∙ ap (λ (z : Result ℕ ℕ). told_at xs d (result_ok z)) (sym e) ∙ ap (told_at xs d) (sym is)

checkpoint_first : (cs : List Checkpoint) (n : ℕ) → checkpoint_at cs n ≡ first number_of cs n
checkpoint_first [] n = refl
checkpoint_first (c ∷ cs) n = ap (cond (eqb c.number n) (Some c)) (checkpoint_first cs n)

logged_first : (ms : List Logged) (id : ℕ) → logged ms id ≡ first id_of ms id
logged_first [] id = refl
logged_first (m ∷ ms) id = ap (cond (eqb m.message.id id) (Some m)) (logged_first ms id)

-- what the search for a checkpoint finds, and what the search for a message
pub checkpoint_told : (cs : List Checkpoint) (n : ℕ) (d : Checkpoint) (r : Result ℕ ℕ) (o : Option ℕ) → r ≡ seek nat_cmp number_of cs n → o ≡ result_ok r → ascending nat_cmp number_of cs ≡ true → told_at cs d o ≡ checkpoint_at cs n
checkpoint_told cs n d r o e is up = sym (checkpoint_first cs n ∙ first_told number_of cs n d r o e is up)

pub logged_told : (ms : List Logged) (id : ℕ) (r : Result ℕ ℕ) (o : Option ℕ) → r ≡ seek nat_cmp id_of ms id → o ≡ result_ok r → ascending nat_cmp id_of ms ≡ true → Sought nat_cmp id_of ms id r → LoggedAt ms id o
logged_told ms id (Ok i) (Some at) e is up sought =
    let same : i ≡ at = cc in
    (subst (λ (z : ℕ). z < length ms) same sought.0, λ d. logged_first ms id ∙ first_told id_of ms id d (Ok i) (Some at) e is up)
logged_told ms id (Ok i) None e is up sought = let z : ◌≡◌ {A = ℕ} 0 1 = cc in absurd (omega arith)
logged_told ms id (Err i) (Some at) e is up sought = let z : ◌≡◌ {A = ℕ} 0 1 = cc in absurd (omega arith)
logged_told ms id (Err i) None e is up sought =
    logged_first ms id ∙ first_told id_of ms id (record { message = record { id = 0; from = 0; to = 0; word = 0; number = 0 }; receipt = None }) (Err i) None e is up
