-- Rows put into a table one after another: the table holds what the rows hold, and a row taken out of the rows
-- is taken out of the table. Both ask that no two rows stand under one cluster and number.
use Rattle.std.proofs.Common.{◌≡◌, ℕ, ◌+◌, true, false, cond, eqb, List, [], ◌∷◌, ◌++◌, length, is_some, Some, None, Option, sym, refl, ap, ◌∙◌, inl, inr, arith}
use Rattle.std.proofs.lemmas.Bool.{cond-true, cond-false, cond_both, cases_Bool, both_ways, eqb-true}
use Rattle.std.proofs.lemmas.Bool.Decides.{nat_tests}
use Rattle.store.specs.Table.{TableRow, under, before, lookup, insert, remove}
use Rattle.store.specs.Formed.{leads, rising}
use Rattle.store.proofs.Orders.{both_true, under_own}
use Rattle.store.proofs.Tables.{leads_on, none_parts, rising-insert, length-insert, remove_none}
use Rattle.records.specs.Order.{sort_onto, sort_rows}
use Rattle.journal.specs.Places.{Distinct}

-- a row's own cluster and number are those it stands under
lookup-under : (rows : List TableRow) (row : TableRow) (c n : ℕ) → under c n row ≡ true → lookup rows row.cluster row.number ≡ lookup rows c n
lookup-under rows row c n h =
    let parts = both_true (eqb row.cluster c) (eqb row.number n) h in
    ap (λ k. lookup rows k row.number) (eqb-true _ _ parts.0) ∙ ap (lookup rows c) (eqb-true _ _ parts.1)

lookup-insert_own : (row : TableRow) (table : List TableRow) (c n : ℕ) → under c n row ≡ true → lookup table c n ≡ None → lookup (insert row table) c n ≡ Some row.words
lookup-insert_own row [] c n h none = cond-true _ _ _ h
lookup-insert_own row (x ∷ table) c n h none =
    let free = none_parts (under c n x) x.words (lookup table c n) none in
    cond_both (before row.cluster row.number x) _ _ (λ t. lookup t c n ≡ Some row.words)
    (λ _. cond-true _ _ _ h)
    (λ _. cond-false _ _ _ free.0 ∙ lookup-insert_own row table c n h free.1)

lookup-insert_other : (row : TableRow) (table : List TableRow) (c n : ℕ) → under c n row ≡ false → lookup (insert row table) c n ≡ lookup table c n
lookup-insert_other row [] c n h = cond-false _ _ _ h
lookup-insert_other row (x ∷ table) c n h =
    cond_both (before row.cluster row.number x) _ _ (λ t. lookup t c n ≡ lookup (x ∷ table) c n)
    (λ _. cond-false _ _ _ h)
    (λ _. ap (λ rest. cond (under c n x) (Some x.words) rest) (lookup-insert_other row table c n h))

-- a table holds none of these rows
abbrev Apart : List TableRow → List TableRow → Type 0
Apart table rows = (c n : ℕ) → is_some (lookup rows c n) ≡ true → lookup table c n ≡ None

apart_own : (table : List TableRow) (row : TableRow) (rows : List TableRow) → Apart table (row ∷ rows) → lookup table row.cluster row.number ≡ None
apart_own table row rows apart = apart row.cluster row.number (ap is_some (cond-true _ _ _ (under_own row)))

apart_next : (table : List TableRow) (row : TableRow) (rows : List TableRow) → lookup rows row.cluster row.number ≡ None → Apart table (row ∷ rows) → Apart (insert row table) rows
apart_next table row rows none apart c n held =
    elim (cases_Bool (under c n row)) [
      | inl t ↦ absurd (both_ways true (sym held ∙ ap is_some (sym (lookup-under rows row c n t) ∙ none)) refl)
      | inr f ↦ lookup-insert_other row table c n f ∙ apart c n (ap is_some (cond-false _ _ _ f) ∙ held)
    ]

abbrev or_else : {A : Type 0} → Option A → Option A → Option A
or_else (Some x) o = Some x
or_else None o = o

or_else_none : {A : Type 0} (o : Option A) → o ≡ or_else o None
or_else_none None = refl
or_else_none (Some x) = refl

lookup_onto : (rows table : List TableRow) → Distinct rows → Apart table rows → (c n : ℕ) → lookup (sort_onto table rows) c n ≡ or_else (lookup table c n) (lookup rows c n)
lookup_onto [] table d apart c n = or_else_none (lookup table c n)
lookup_onto (row ∷ rows) table d apart c n =
    let own = apart_own table row rows apart in
    let rest = lookup_onto rows (insert row table) d.1 (apart_next table row rows d.0 apart) c n in
    elim (cases_Bool (under c n row)) [
      | inl t ↦ let none = sym (lookup-under table row c n t) ∙ own in
          rest ∙ ap (λ o. or_else o (lookup rows c n)) (lookup-insert_own row table c n t none)
          ∙ sym (ap (λ o. or_else o (lookup (row ∷ rows) c n)) none ∙ cond-true _ _ _ t)
      | inr f ↦ rest ∙ ap (λ o. or_else o (lookup rows c n)) (lookup-insert_other row table c n f)
          ∙ ap (or_else (lookup table c n)) (sym (cond-false _ _ _ f))
    ]

-- the table holds what the rows hold
pub lookup_sort : (rows : List TableRow) → Distinct rows → (c n : ℕ) → lookup (sort_rows rows) c n ≡ lookup rows c n
lookup_sort rows d c n = lookup_onto rows [] d (λ c' n' _. refl) c n

pub length_onto : (rows table : List TableRow) → length (sort_onto table rows) ≡ length table + length rows
length_onto [] table = omega arith
length_onto (row ∷ rows) table =
    let rest = length_onto rows (insert row table) in let longer = length-insert row table in omega arith

insert_lead : (row : TableRow) (table : List TableRow) → leads row.cluster row.number table ≡ true → insert row table ≡ row ∷ table
insert_lead row [] h = refl
insert_lead row (x ∷ table) h = cond-true _ _ _ h

-- taking out one row and putting in another come to the same in either order
remove-insert : (row : TableRow) (table : List TableRow) (c n : ℕ) → rising table ≡ true → under c n row ≡ false → remove (insert row table) c n ≡ insert row (remove table c n)
remove-insert row [] c n up h = cond-false _ _ _ h
remove-insert row (x ∷ table) c n up h =
    let parts = both_true (leads x.cluster x.number table) (rising table) up in
    elim (cases_Bool (before row.cluster row.number x)) [
      | inl b ↦ ap (λ t. remove t c n) (cond-true _ _ _ b) ∙ cond-false _ _ _ h
          ∙ cond_both (under c n x) _ _ (λ t. row ∷ t ≡ insert row t)
          (λ _. sym (insert_lead row table (leads_on row.cluster row.number x table b parts.0)))
          (λ _. sym (cond-true _ _ _ b))
      | inr f ↦ ap (λ t. remove t c n) (cond-false _ _ _ f)
          ∙ elim (cases_Bool (under c n x)) [
            | inl t ↦ cond-true _ _ _ t ∙ ap (insert row) (sym (cond-true _ _ _ t))
            | inr g ↦ cond-false _ _ _ g ∙ ap (λ rest. x ∷ rest) (remove-insert row table c n parts.1 h)
                ∙ sym (ap (insert row) (cond-false (under c n x) table (x ∷ remove table c n) g) ∙ cond-false _ _ _ f)
          ]
    ]

remove_own : (row : TableRow) (table : List TableRow) (c n : ℕ) → under c n row ≡ true → lookup table c n ≡ None → remove (insert row table) c n ≡ table
remove_own row [] c n h none = cond-true _ _ _ h
remove_own row (x ∷ table) c n h none =
    let free = none_parts (under c n x) x.words (lookup table c n) none in
    cond_both (before row.cluster row.number x) _ _ (λ t. remove t c n ≡ x ∷ table)
    (λ _. cond-true _ _ _ h)
    (λ _. cond-false _ _ _ free.0 ∙ ap (λ rest. x ∷ rest) (remove_own row table c n h free.1))

remove_onto : (rows table : List TableRow) (c n : ℕ) → rising table ≡ true → Distinct rows → Apart table rows → lookup rows c n ≡ None → remove (sort_onto table rows) c n ≡ sort_onto (remove table c n) rows
remove_onto [] table c n up d apart none = refl
remove_onto (row ∷ rows) table c n up d apart none =
    let free = none_parts (under c n row) row.words (lookup rows c n) none in
    let up' = rising-insert table row.cluster row.number row.words up (apart_own table row rows apart) in
    remove_onto rows (insert row table) c n up' d.1 (apart_next table row rows d.0 apart) free.1
    ∙ ap (λ t. sort_onto t rows) (remove-insert row table c n up free.0)

remove_sort_onto : (rows table : List TableRow) (c n : ℕ) → rising table ≡ true → Distinct rows → Apart table rows → lookup table c n ≡ None → remove (sort_onto table rows) c n ≡ sort_onto table (remove rows c n)
remove_sort_onto [] table c n up d apart none = remove_none table c n none
remove_sort_onto (row ∷ rows) table c n up d apart none =
    let up' = rising-insert table row.cluster row.number row.words up (apart_own table row rows apart) in
    let next = apart_next table row rows d.0 apart in
    elim (cases_Bool (under c n row)) [
      | inl t ↦ remove_onto rows (insert row table) c n up' d.1 next (sym (lookup-under rows row c n t) ∙ d.0)
          ∙ ap (λ t'. sort_onto t' rows) (remove_own row table c n t none)
          ∙ ap (sort_onto table) (sym (cond-true _ _ _ t))
      | inr f ↦ remove_sort_onto rows (insert row table) c n up' d.1 next (lookup-insert_other row table c n f ∙ none)
          ∙ ap (sort_onto table) (sym (cond-false (under c n row) rows (row ∷ remove rows c n) f))
    ]

pub remove_sort : (rows : List TableRow) (c n : ℕ) → Distinct rows → remove (sort_rows rows) c n ≡ sort_rows (remove rows c n)
remove_sort rows c n d = remove_sort_onto rows [] c n refl d (λ c' n' _. refl) refl

-- rows stay distinct
lookup_push : (rows : List TableRow) (row : TableRow) (c n : ℕ) → lookup rows c n ≡ None → under c n row ≡ false → lookup (rows ++ (row ∷ [])) c n ≡ None
lookup_push [] row c n none h = cond-false _ _ _ h
lookup_push (x ∷ rows) row c n none h =
    let free = none_parts (under c n x) x.words (lookup rows c n) none in
    cond-false _ _ _ free.0 ∙ lookup_push rows row c n free.1 h

other_way : (x y : TableRow) → under y.cluster y.number x ≡ false → under x.cluster x.number y ≡ false
other_way x y h = grind (arith, nat_tests)

pub distinct_push : (rows : List TableRow) (row : TableRow) → Distinct rows → lookup rows row.cluster row.number ≡ None → Distinct (rows ++ (row ∷ []))
distinct_push [] row d none = (refl, tt)
distinct_push (x ∷ rows) row d none =
    let free = none_parts (under row.cluster row.number x) x.words (lookup rows row.cluster row.number) none in
    (lookup_push rows row x.cluster x.number d.0 (other_way x row free.0), distinct_push rows row d.1 free.1)

lookup-remove : (rows : List TableRow) (c n c' n' : ℕ) → lookup rows c n ≡ None → lookup (remove rows c' n') c n ≡ None
lookup-remove [] c n c' n' none = refl
lookup-remove (x ∷ rows) c n c' n' none =
    let free = none_parts (under c n x) x.words (lookup rows c n) none in
    cond_both (under c' n' x) _ _ (λ rest. lookup rest c n ≡ None) (λ _. free.1)
    (λ _. cond-false _ _ _ free.0 ∙ lookup-remove rows c n c' n' free.1)

pub distinct_remove : (rows : List TableRow) (c n : ℕ) → Distinct rows → Distinct (remove rows c n)
distinct_remove [] c n d = tt
distinct_remove (x ∷ rows) c n d =
    cond_both (under c n x) _ _ Distinct (λ _. d.1)
    (λ _. (lookup-remove rows x.cluster x.number c n d.0, distinct_remove rows c n d.1))
