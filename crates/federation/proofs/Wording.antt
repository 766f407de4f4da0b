-- A buffer of 32 words suffices for every row of a store, so what is read is what the store holds.
use Rattle.std.proofs.Common.{◌≡◌, ℕ, ◌≤◌, Bool, true, false, cond, leb, List, [], ◌∷◌, length, take, drop, Some, None, Ok, Err, Option, Result, unwrap_or, sym, refl, ap, ◌∙◌, subst, ap₂, arith}
use Rattle.std.proofs.lemmas.List.{take_at}
use Rattle.std.proofs.lemmas.Bool.{leb-true, le-leb, cond-true}
use Rattle.refusal.specs.declared.Refusal.{Refusal}
use Rattle.refusal.specs.declared.Refusal.TheVariants as refuses
use Rattle.refusal.specs.declared.StoreRefusal.{StoreRefusal}
use Rattle.refusal.specs.declared.StoreRefusal.TheVariants as store_refuses
use Rattle.refusal.specs.Answers.{unless_refused, replied}
use Rattle.store.specs.Table.{TableRow, lookup, under, words_fit, over, read_refused}
use Rattle.store.specs.Formed.{sized}
use Rattle.store.proofs.Orders.{both_true}
use Rattle.federation.specs.Told.{held}

nothing : {A B : Type 0} {why : B} {x : A} → ◌≡◌ {A = Result A B} (Ok x) (Err why) → ⊥
nothing e = let z : ◌≡◌ {A = ℕ} 0 1 = cc in omega arith

-- every row that is found has at most 32 words
pub sized_at : (rows : List TableRow) (c n : ℕ) (ws : List ℕ) → sized rows ≡ true → lookup rows c n ≡ Some ws → length ws ≤ 32
sized_at [] c n ws all e = let z : ◌≡◌ {A = ℕ} 0 1 = cc in absurd (omega arith)
sized_at (row ∷ rows) c n ws all e = by_test (under c n row) (λ f. sized_at rows c n ws parts.1 f) e
  where
    parts : (words_fit (length row.words) ≡ true) × (sized rows ≡ true)
    parts = both_true (words_fit (length row.words)) (sized rows) all

    by_test : (t : Bool) → (lookup rows c n ≡ Some ws → length ws ≤ 32) → cond t (Some row.words) (lookup rows c n) ≡ Some ws → length ws ≤ 32
    by_test true rest f =
        let same : row.words ≡ ws = cc in
        subst (λ (l : List ℕ). length l ≤ 32) same (leb-true _ _ (both_true (leb 1 (length row.words)) (leb (length row.words) 32) parts.0).1)
    by_test false rest f = rest f

pub read_held : (o : Option (List ℕ)) (count : ℕ) (buffer now : List ℕ) → Ok count ≡ replied (read_refused o 32) (length (unwrap_or o [])) → now ≡ unless_refused (read_refused o 32) buffer (over (unwrap_or o []) buffer) → Ok (take count now) ≡ held o
read_held None count buffer now e l = absurd (nothing e)
read_held (Some ws) count buffer now e l = by_test (leb (length ws) 32) e l
  where
    by_test : (t : Bool) → Ok count ≡ replied (cond t None (Some store_refuses.WordCount)) (length ws) → now ≡ unless_refused (cond t None (Some store_refuses.WordCount)) buffer (over ws buffer) → Ok (take count now) ≡ held (Some ws)
    by_test true f g =
        let as_many : count ≡ length ws = cc in
        let front : take count now ≡ ws = ap₂ (λ (k : ℕ) (x : List ℕ). take k x) as_many g ∙ take_at ws (drop (length ws) buffer) (length ws) refl in
        ap (λ (x : List ℕ). said x) front
      where
        said : List ℕ → Result (List ℕ) Refusal
        said x = Ok x
    by_test false f g = absurd (nothing f)

pub read_refused_lem : (o : Option (List ℕ)) (why : StoreRefusal) (count : ℕ) → ((ws : List ℕ) → o ≡ Some ws → length ws ≤ 32) → Err why ≡ replied (read_refused o 32) count → Err (refuses.Store why) ≡ held o
read_refused_lem None why count fits e = cc
read_refused_lem (Some ws) why count fits e =
    let room : read_refused (Some ws) 32 ≡ None = cond-true (leb (length ws) 32) None (Some store_refuses.WordCount) (le-leb _ _ (fits ws refl)) in
    let z : Err why ≡ Ok count = e ∙ ap (λ (x : Option StoreRefusal). replied x count) room in
    absurd (nothing (sym z))
