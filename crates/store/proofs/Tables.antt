-- Rows that rise: nothing is held ahead of the first, so the place that `seek` finds tells at once what is held,
-- where a row goes in and which one comes out; and a row more or less leaves a table formed.
use Rattle.std.proofs.Common.{◌≡◌, ℕ, zero, suc, ◌<◌, ◌≤◌, Bool, true, false, cond, leb, List, [], ◌∷◌, length, get_or, take, is_some, Some, None, Ok, Err, Option, Result, refl, ap, ◌∙◌, subst, arith}
use Rattle.std.proofs.lemmas.Bool.{cond-true, cond-false, cond_both, leb-false, lt-leb}
use Rattle.std.proofs.lemmas.Bool.Decides.{nat_tests}
use Rattle.std.specs.declared.cmp.Ordering.{Ordering}
use Rattle.std.specs.declared.cmp.Ordering.TheVariants.{Less, Equal, Greater}
use Rattle.std.specs.Ordering.{MatchOrdering}
use Rattle.std.specs.List.{insert as inserted, remove as removed}
use Rattle.refusal.specs.declared.StoreRefusal.{StoreRefusal}
use Rattle.refusal.specs.Answers.{unless_refused}
use Rattle.store.specs.Table.{TableRow, Model, under, before, lookup, insert, remove, words_fit, keep_refusal, keep_model, drop_model, with_table, key_of, row_at}
use Rattle.store.specs.Formed.{leads, rising, sized, Formed}
use Rattle.ordered.specs.Seek.{seek, stands, onward}
use Rattle.store.specs.Seek.{row_order}
use Rattle.store.proofs.Orders.{both_true, both_from, before-under, before_trans, before-total, after-under, after-before, under_own}

abbrev pub new_row : ℕ → ℕ → List ℕ → TableRow
new_row c n ws = record { cluster = c; number = n; words = ws }

-- what comes before a row comes before what follows it
pub leads_on : (c n : ℕ) (row : TableRow) (rows : List TableRow) → before c n row ≡ true → leads row.cluster row.number rows ≡ true → leads c n rows ≡ true
leads_on c n row [] h k = refl
leads_on c n row (next ∷ rows) h k = before_trans c n row next h k

-- nothing is held under a cluster and number that come before every row
pub lookup-ahead : (rows : List TableRow) (c n : ℕ) → leads c n rows ≡ true → rising rows ≡ true → lookup rows c n ≡ None
lookup-ahead [] c n h up = refl
lookup-ahead (row ∷ rows) c n h up =
    let parts = both_true (leads row.cluster row.number rows) (rising rows) up in
    cond-false (under c n row) _ _ (before-under c n row h)
    ∙ lookup-ahead rows c n (leads_on c n row rows h parts.0) parts.1

-- what the place that a search answers tells of a table
abbrev pub Placed : List TableRow → ℕ → ℕ → Result ℕ ℕ → Type 0
Placed rows c n (Ok i) =
    (i < length rows) × ((d : TableRow) → lookup rows c n ≡ Some (get_or rows i d).words) × (remove rows c n ≡ removed rows i)
Placed rows c n (Err i) =
    (i ≤ length rows) × (lookup rows c n ≡ None) × ((ws : List ℕ) → insert (new_row c n ws) rows ≡ inserted rows i (new_row c n ws))

placed_on : (row : TableRow) (rows : List TableRow) (c n : ℕ) (r : Result ℕ ℕ) → before c n row ≡ false → under c n row ≡ false → Placed rows c n r → Placed (row ∷ rows) c n (onward r)
placed_on row rows c n (Ok i) nb nu p =
    (omega (arith, p.0), (λ d. cond-false _ _ _ nu ∙ p.1 d), cond-false _ _ _ nu ∙ ap (λ rest. row ∷ rest) p.2)
placed_on row rows c n (Err i) nb nu p =
    (omega (arith, p.0), cond-false _ _ _ nu ∙ p.1, (λ ws. cond-false _ _ _ nb ∙ ap (λ rest. row ∷ rest) (p.2 ws)))

-- how a row's key compares with the one sought, and what the tests of the row say then
compared : (c n : ℕ) (row : TableRow) → MatchOrdering (row_order (key_of row) (record { cluster = c; number = n })) ((before c n row ≡ false) × (under c n row ≡ false)) (under c n row ≡ true) (before c n row ≡ true)
compared c n row = grind (arith, nat_tests)

pub placed : (rows : List TableRow) (c n : ℕ) → rising rows ≡ true → Placed rows c n (seek row_order key_of rows (record { cluster = c; number = n }))
placed [] c n up = (omega arith, refl, λ ws. refl)
placed (row ∷ rows) c n up = by_order (row_order (key_of row) (record { cluster = c; number = n })) (compared c n row) (placed rows c n (both_true (leads row.cluster row.number rows) (rising rows) up).1)
  where
    by_order : (o : Ordering) → MatchOrdering o ((before c n row ≡ false) × (under c n row ≡ false)) (under c n row ≡ true) (before c n row ≡ true) → Placed rows c n (seek row_order key_of rows (record { cluster = c; number = n })) → Placed (row ∷ rows) c n (stands o (seek row_order key_of rows (record { cluster = c; number = n })))
    by_order Less m p = placed_on row rows c n _ m.0 m.1 p
    by_order Equal u p = (omega arith, (λ d. cond-true _ _ _ u), cond-true _ _ _ u)
    by_order Greater b p = (omega arith, lookup-ahead (row ∷ rows) c n b up, (λ ws. cond-true _ _ _ b))

-- the tests behind a row that is not held
pub none_parts : {A : Type 0} (b : Bool) (x : A) (o : Option A) → cond b (Some x) o ≡ None → (b ≡ false) × (o ≡ None)
none_parts true x o e = let z : ◌≡◌ {A = ℕ} 0 1 = cc in absurd (omega arith)
none_parts false x o e = (refl, e)

leads-insert : (c n : ℕ) (new : TableRow) (rows : List TableRow) → leads c n rows ≡ true → before c n new ≡ true → leads c n (insert new rows) ≡ true
leads-insert c n new [] h k = k
leads-insert c n new (row ∷ rows) h k =
    cond_both (before new.cluster new.number row) _ _ (λ rs. leads c n rs ≡ true) (λ _. k) (λ _. h)

pub rising-insert : (rows : List TableRow) (c n : ℕ) (ws : List ℕ) → rising rows ≡ true → lookup rows c n ≡ None → rising (insert (new_row c n ws) rows) ≡ true
rising-insert [] c n ws up none = refl
rising-insert (row ∷ rows) c n ws up none =
    let parts = both_true (leads row.cluster row.number rows) (rising rows) up in
    let free = none_parts (under c n row) row.words (lookup rows c n) none in
    cond_both (before c n row) _ _ (λ rs. rising rs ≡ true)
    (λ b. both_from _ _ b up)
    (λ nb. both_from _ _
    (leads-insert row.cluster row.number (new_row c n ws) rows parts.0 (before-total c n row nb free.0))
    (rising-insert rows c n ws parts.1 free.1))

leads-remove : (c n : ℕ) (rows : List TableRow) (c' n' : ℕ) → leads c n rows ≡ true → rising rows ≡ true → leads c n (remove rows c' n') ≡ true
leads-remove c n [] c' n' h up = refl
leads-remove c n (row ∷ rows) c' n' h up =
    let parts = both_true (leads row.cluster row.number rows) (rising rows) up in
    cond_both (under c' n' row) _ _ (λ rs. leads c n rs ≡ true) (λ _. leads_on c n row rows h parts.0) (λ _. h)

pub rising-remove : (rows : List TableRow) (c n : ℕ) → rising rows ≡ true → rising (remove rows c n) ≡ true
rising-remove [] c n up = refl
rising-remove (row ∷ rows) c n up =
    let parts = both_true (leads row.cluster row.number rows) (rising rows) up in
    cond_both (under c n row) _ _ (λ rs. rising rs ≡ true)
    (λ _. parts.1)
    (λ _. both_from _ _ (leads-remove row.cluster row.number rows c n parts.0 parts.1) (rising-remove rows c n parts.1))

pub length-insert : (new : TableRow) (rows : List TableRow) → length (insert new rows) ≡ suc (length rows)
length-insert new [] = refl
length-insert new (row ∷ rows) =
    cond_both (before new.cluster new.number row) _ _ (λ rs. length rs ≡ suc (suc (length rows))) (λ _. refl)
    (λ _. ap suc (length-insert new rows))

pub length-remove : (rows : List TableRow) (c n : ℕ) → is_some (lookup rows c n) ≡ true → suc (length (remove rows c n)) ≡ length rows
length-remove [] c n h = let z : ◌≡◌ {A = ℕ} 0 1 = cc in absurd (omega arith)
length-remove (row ∷ rows) c n h =
    cond_both (under c n row) rows (row ∷ remove rows c n) (λ rs. suc (length rs) ≡ suc (length rows))
    (λ _. refl)
    (λ nu. ap suc (length-remove rows c n (subst (λ (o : Option (List ℕ)). is_some o ≡ true) (cond-false (under c n row) _ _ nu) h)))

pub length-remove_le : (rows : List TableRow) (c n : ℕ) → length (remove rows c n) ≤ length rows
length-remove_le [] c n = omega arith
length-remove_le (row ∷ rows) c n =
    let rest = length-remove_le rows c n in
    cond_both (under c n row) _ _ (λ rs. length rs ≤ suc (length rows)) (λ _. omega arith) (λ _. omega arith)

-- dropping what is not held changes nothing
pub remove_none : (rows : List TableRow) (c n : ℕ) → lookup rows c n ≡ None → remove rows c n ≡ rows
remove_none [] c n none = refl
remove_none (row ∷ rows) c n none =
    let free = none_parts (under c n row) row.words (lookup rows c n) none in
    cond-false _ _ _ free.0 ∙ ap (λ rest. row ∷ rest) (remove_none rows c n free.1)

pub sized-insert : (new : TableRow) (rows : List TableRow) → words_fit (length new.words) ≡ true → sized rows ≡ true → sized (insert new rows) ≡ true
sized-insert new [] fit all = both_from _ _ fit refl
sized-insert new (row ∷ rows) fit all =
    let parts = both_true (words_fit (length row.words)) (sized rows) all in
    cond_both (before new.cluster new.number row) _ _ (λ rs. sized rs ≡ true)
    (λ _. both_from _ _ fit all)
    (λ _. both_from _ _ parts.0 (sized-insert new rows fit parts.1))

pub sized-remove : (rows : List TableRow) (c n : ℕ) → sized rows ≡ true → sized (remove rows c n) ≡ true
sized-remove [] c n all = refl
sized-remove (row ∷ rows) c n all =
    let parts = both_true (words_fit (length row.words)) (sized rows) all in
    cond_both (under c n row) _ _ (λ rs. sized rs ≡ true)
    (λ _. parts.1)
    (λ _. both_from _ _ parts.0 (sized-remove rows c n parts.1))

pub none_since : {A : Type 0} (o : Option A) → is_some o ≡ false → o ≡ None
none_since None e = refl
none_since (Some x) e = let z : ◌≡◌ {A = ℕ} 0 1 = cc in absurd (omega arith)

pub some_none : {A : Type 0} {x : A} → Some x ≡ None → ⊥
some_none e = let z : ◌≡◌ {A = ℕ} 0 1 = cc in omega arith

-- a table stays formed
pub formed_keep : (m : Model) (c n : ℕ) (ws : List ℕ) → Formed m → Formed (keep_model m c n ws)
formed_keep m c n ws f =
    let after : Option _ → Type 0 = λ why. Formed (unless_refused why m (with_table m (insert (new_row c n ws) m.table))) in
    cond_both (words_fit (length ws)) _ _ after
    (λ fit. cond_both (is_some (lookup m.table c n)) _ _ after (λ _. f)
    (λ free. cond_both (leb m.capacity (length m.table)) _ _ after (λ _. f)
    (λ room. let below = leb-false m.capacity (length m.table) room in
    let longer = length-insert (new_row c n ws) m.table in
    record {
      short = omega arith;
      rising = rising-insert m.table c n ws f.rising (none_since _ free);
      sized = sized-insert (new_row c n ws) m.table fit f.sized;
    })))
    (λ _. f)

pub formed-drop : (m : Model) (c n : ℕ) → Formed m → Formed (drop_model m c n)
formed-drop m c n f =
    let shorter = length-remove_le m.table c n in
    let within = f.short in
    record {
      short = omega arith;
      rising = rising-remove m.table c n f.rising;
      sized = sized-remove m.table c n f.sized;
    }

-- what a keep that is not refused has found
pub record Allowed (m : Model) (c n : ℕ) (ws : List ℕ) : Type 0 where
  pub fit : words_fit (length ws) ≡ true
  pub free : lookup m.table c n ≡ None
  pub room : length m.table < m.capacity

pub allowed : (m : Model) (c n : ℕ) (ws : List ℕ) → keep_refusal m c n ws ≡ None → Allowed m c n ws
allowed m c n ws =
    let Then : Option _ → Type 0 = λ why. why ≡ None → Allowed m c n ws in
    cond_both (words_fit (length ws)) _ _ Then
    (λ fit. cond_both (is_some (lookup m.table c n)) _ _ Then (λ _ e. absurd (some_none e))
    (λ free. cond_both (leb m.capacity (length m.table)) _ _ Then (λ _ e. absurd (some_none e))
    (λ room e. record { fit = fit; free = none_since _ free; room = leb-false m.capacity (length m.table) room })))
    (λ _ e. absurd (some_none e))

-- what the store means after it
pub keep_allowed : (m : Model) (c n : ℕ) (ws : List ℕ) → keep_refusal m c n ws ≡ None → keep_model m c n ws ≡ with_table m (insert (new_row c n ws) m.table)
keep_allowed m c n ws e = ap (λ why. unless_refused why m (with_table m (insert (new_row c n ws) m.table))) e

-- every row behind the first comes after it
pub all_behind : (row : TableRow) (rows : List TableRow) (i : ℕ) (d : TableRow) → rising (row ∷ rows) ≡ true → i < length rows → before row.cluster row.number (get_or rows i d) ≡ true
all_behind row [] i d up within = absurd (omega arith)
all_behind row (next ∷ rows) zero d up within = (both_true (before row.cluster row.number next) (rising (next ∷ rows)) up).0
all_behind row (next ∷ rows) (suc i) d up within =
    let parts = both_true (before row.cluster row.number next) (rising (next ∷ rows)) up in
    before_trans row.cluster row.number next (get_or rows i d) parts.0 (all_behind next rows i d parts.1 (omega arith))

-- a row stands under its own cluster and number
pub lookup_at : (rows : List TableRow) (i : ℕ) (d : TableRow) → rising rows ≡ true → i < length rows → lookup rows (get_or rows i d).cluster (get_or rows i d).number ≡ Some (get_or rows i d).words
lookup_at [] i d up within = absurd (omega arith)
lookup_at (row ∷ rows) zero d up within = cond-true _ _ _ (under_own row)
lookup_at (row ∷ rows) (suc i) d up within =
    let parts = both_true (leads row.cluster row.number rows) (rising rows) up in
    cond-false _ _ _ (after-under row (get_or rows i d) (all_behind row rows i d up (omega arith)))
    ∙ lookup_at rows i d parts.1 (omega arith)

-- and not among those before it
pub lookup_front : (rows : List TableRow) (i : ℕ) (d : TableRow) → rising rows ≡ true → i < length rows → lookup (take i rows) (get_or rows i d).cluster (get_or rows i d).number ≡ None
lookup_front [] i d up within = absurd (omega arith)
lookup_front (row ∷ rows) zero d up within = refl
lookup_front (row ∷ rows) (suc i) d up within =
    let parts = both_true (leads row.cluster row.number rows) (rising rows) up in
    cond-false _ _ _ (after-under row (get_or rows i d) (all_behind row rows i d up (omega arith)))
    ∙ lookup_front rows i d parts.1 (omega arith)

-- inserted there, it goes behind them
pub insert_front : (rows : List TableRow) (i : ℕ) (d : TableRow) → rising rows ≡ true → i < length rows → insert (get_or rows i d) (take i rows) ≡ take (suc i) rows
insert_front [] i d up within = absurd (omega arith)
insert_front (row ∷ rows) zero d up within = refl
insert_front (row ∷ rows) (suc i) d up within =
    let parts = both_true (leads row.cluster row.number rows) (rising rows) up in
    cond-false _ _ _ (after-before row (get_or rows i d) (all_behind row rows i d up (omega arith)))
    ∙ ap (λ rest. row ∷ rest) (insert_front rows i d parts.1 (omega arith))

pub sized_at : (rows : List TableRow) (i : ℕ) (d : TableRow) → sized rows ≡ true → i < length rows → words_fit (length (get_or rows i d).words) ≡ true
sized_at [] i d all within = absurd (omega arith)
sized_at (row ∷ rows) zero d all within = (both_true (words_fit (length row.words)) (sized rows) all).0
sized_at (row ∷ rows) (suc i) d all within =
    sized_at rows i d (both_true (words_fit (length row.words)) (sized rows) all).1 (omega arith)

-- what the position tells is the key of the row there
pub row_at_lem : (rows : List TableRow) (i : ℕ) (d : TableRow) → i < length rows → row_at rows i ≡ Some (key_of (get_or rows i d))
row_at_lem [] i d within = absurd (omega arith)
row_at_lem (row ∷ rows) zero d within = refl
row_at_lem (row ∷ rows) (suc i) d within = row_at_lem rows i d (omega arith)

pub keep_free : (m : Model) (c n : ℕ) (ws : List ℕ) → Allowed m c n ws → keep_refusal m c n ws ≡ None
keep_free m c n ws a =
    let room = a.room in
    cond-true _ _ _ a.fit ∙ cond-false _ _ _ (ap is_some a.free) ∙ cond-false _ _ _ (lt-leb m.capacity (length m.table) room)

-- a keep adds one row at most
pub length_keep_le : (m : Model) (c n : ℕ) (ws : List ℕ) → length (keep_model m c n ws).table ≤ suc (length m.table)
length_keep_le m c n ws = by_refusal (keep_refusal m c n ws)
  where
    by_refusal : (why : Option StoreRefusal) → length (unless_refused why m (with_table m (insert (new_row c n ws) m.table))).table ≤ suc (length m.table)
    by_refusal None = let longer = length-insert (new_row c n ws) m.table in omega arith
    by_refusal (Some why) = omega arith
