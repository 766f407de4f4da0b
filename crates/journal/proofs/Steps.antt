-- The four moves of a journal: a record more, a row forgotten, a drop noted, and all records moved together. Each
-- is told by the records and the held places after it; that it leaves a sound journal follows from those.
use Rattle.std.proofs.Common.{◌≡◌, ℕ, ◌+◌, ◌*◌, ◌<◌, ◌≤◌, cond, leb, List, [], ◌∷◌, ◌++◌, map, length, get_or, take, drop, Some, None, vec_items, vec_len, sym, refl, ap, ◌∙◌, subst, arith}
use Rattle.std.proofs.lemmas.Bool.{leb-true, cond-true, cond-false, cond_both}
use Rattle.std.proofs.lemmas.List.{append-nil, map-append, length-map, length-take-le, take-append-drop, take_all, drop_at, with_items_is}
use Rattle.std.specs.Vec.{with_items}
use Rattle.std.specs.List.{remove as removed}
use Rattle.store.specs.Table.{TableRow, lookup, insert, remove, keep_refusal, keep_model, drop_model}
use Rattle.store.specs.Formed.{Formed}
use Rattle.store.proofs.Orders.{both_true}
use Rattle.store.proofs.Edits.{map_removed}
use Rattle.store.proofs.Tables.{remove_none, new_row, allowed, keep_allowed, formed_keep, formed-drop}
use Rattle.records.specs.declared.Held.{Held}
use Rattle.records.specs.Encode.{keep_bytes, rows_bytes, words_bytes, words_in}
use Rattle.records.specs.Layout.{size_of, part, parts, row_from, row_in, relaid, total, Laid}
use Rattle.records.specs.Order.{first_of, sort_rows}
use Rattle.records.proofs.Words.{length-words_bytes}
use Rattle.records.proofs.Ordering.{sort_push}
use Rattle.journal.specs.declared.Journal.{Journal}
use Rattle.journal.specs.Places.{table_of, Distinct, Sound}
use Rattle.journal.specs.State.{records_of, rows_of, journal_model, keep_records}
use Rattle.journal.proofs.Sorting.{lookup_sort, length_onto, remove_sort, distinct_push, distinct_remove}
use Rattle.journal.proofs.Holding.{first_in, same_rows, same_lie, same_few, same_more, same_relaid, parts_front, parts_rows, total-few, laid-relaid, laid_wider, laid_push, laid_removed, lie_push, lie_removed, few_push, few_removed}

-- the same, of bytes and places that are told in other words
carry : {bs bs' : List ℕ} {e : ℕ} {hs hs' is : List Held} → bs' ≡ bs → hs' ≡ hs → Sound bs e hs is → Sound bs' e hs' is
carry {bs} {bs'} {e} {hs} {hs'} {is} front items s =
    subst (λ (xs : List ℕ). Sound xs e hs' is) (sym front) (subst (λ (xs : List Held). Sound bs e xs is) (sym items) s)

rows_are : {bs bs' : List ℕ} {hs hs' : List Held} → bs' ≡ bs → hs' ≡ hs → map (row_in bs') hs' ≡ map (row_in bs) hs
rows_are {bs} {bs'} {hs} {hs'} front items = ap (λ (xs : List ℕ). map (row_in xs) hs') front ∙ ap (map (row_in bs)) items

records_length : (j : Journal) → length (records_of j) ≡ j.used
records_length j = length-take-le j.used j.bytes.now (omega (arith, j.size, j.within))

laid_records : (j : Journal) → Laid 0 (vec_items j.held) (length (records_of j))
laid_records j = subst (Laid 0 (vec_items j.held)) (sym (records_length j)) j.sound.laid

rows_length : (j : Journal) → length (vec_items j.held) ≤ 64
rows_length j =
    let short = j.sound.formed.short in
    let sorted = length_onto (rows_of j) [] in
    let shown = length-map (vec_items j.held) (row_in (records_of j)) in
    omega arith

-- what a journal means after its rows have changed
pub kept_model : (j : Journal) (rows : List TableRow) (c n : ℕ) (ws : List ℕ) → keep_refusal (journal_model j) c n ws ≡ None → rows ≡ rows_of j ++ (new_row c n ws ∷ []) → table_of rows ≡ keep_model (journal_model j) c n ws
kept_model j rows c n ws free e =
    ap table_of e
    ∙ ap (λ (rs : List TableRow). record { table = rs; capacity = 64; full = 0 }) (sort_push [] (rows_of j) (new_row c n ws))
    ∙ sym (keep_allowed (journal_model j) c n ws free)

pub dropped_model : (j : Journal) (rows : List TableRow) (c n : ℕ) → rows ≡ remove (rows_of j) c n → table_of rows ≡ drop_model (journal_model j) c n
dropped_model j rows c n e =
    ap table_of e
    ∙ ap (λ (rs : List TableRow). record { table = rs; capacity = 64; full = 0 }) (sym (remove_sort (rows_of j) c n j.sound.distinct))

-- a row is kept
-- where the record of a new row stands
abbrev pub new_place : Journal → ℕ → ℕ → List ℕ → Held
new_place j c n ws = record { key = record { cluster = c; number = n }; at = j.used; count = length ws }

pub append_step : (j : Journal) {bs : List ℕ} {e : ℕ} {hs is : List Held} (c n : ℕ) (ws : List ℕ) → keep_refusal (journal_model j) c n ws ≡ None → e ≡ j.used + size_of (length ws) → bs ≡ records_of j ++ keep_bytes (new_row c n ws) → ((rest : List ℕ) → words_in (length ws) (words_bytes ws ++ rest) ≡ ws) → hs ≡ vec_items j.held ++ (new_place j c n ws ∷ []) → ((xs : List ℕ) → map (row_in xs) is ≡ insert (row_in xs (new_place j c n ws)) (map (row_in xs) (vec_items j.index))) → (map (row_in bs) hs ≡ rows_of j ++ (new_row c n ws ∷ [])) × Sound bs e hs is
append_step j {e = e} {is = is} c n ws free end front reads items shown =
    let s = j.sound in
    let new = new_place j c n ws in
    let row = new_row c n ws in
    let kb = keep_bytes row in
    let bs = records_of j ++ kb in
    let hs = vec_items j.held in
    let len = records_length j in
    let may = allowed (journal_model j) c n ws free in
    let size : length kb ≡ size_of (length ws) = let sum = length-words_bytes ws in omega arith in
    let same = same_more (records_of j) kb 0 hs (laid_records j) in
    let part_new : part bs new ≡ kb =
    ap (take (size_of (length ws))) (drop_at (records_of j) kb j.used len) ∙ take_all (size_of (length ws)) kb (omega arith) in
    let words : words_in (length ws) (words_bytes ws) ≡ ws =
    ap (words_in (length ws)) (sym (append-nil (words_bytes ws))) ∙ reads [] in
    let row_new : row_in bs new ≡ row = ap (row_from new) part_new ∙ ap (new_row c n) words in
    let rows : map (row_in bs) (hs ++ (new ∷ [])) ≡ rows_of j ++ (row ∷ []) =
    map-append (row_in bs) hs (new ∷ [])
    ∙ ap (λ (rs : List TableRow). rs ++ (row_in bs new ∷ [])) (same_rows bs hs (records_of j) hs same)
    ∙ ap (λ (r : TableRow). rows_of j ++ (r ∷ [])) row_new in
    let table : table_of (rows_of j ++ (row ∷ [])) ≡ keep_model (journal_model j) c n ws = kept_model j _ c n ws free refl in
    let fit = both_true (leb 1 (length ws)) (leb (length ws) 32) may.fit in
    let after : Sound bs e (hs ++ (new ∷ [])) is = record {
      laid = subst (Laid 0 (hs ++ (new ∷ []))) (sym end) (laid_push 0 hs new s.laid);
      lie = lie_push bs hs new (same_lie bs hs (records_of j) hs same s.lie) (part_new ∙ ap keep_bytes (sym row_new));
      few = few_push hs new s.few (leb-true (length ws) 32 fit.1);
      distinct = subst Distinct (sym rows)
          (distinct_push (rows_of j) row s.distinct (sym (lookup_sort (rows_of j) s.distinct c n) ∙ may.free));
      formed = subst (λ (rs : List TableRow). Formed (table_of rs)) (sym rows)
          (subst Formed (sym table) (formed_keep (journal_model j) c n ws s.formed));
      shown = λ xs. shown xs ∙ ap (insert (row_in xs new)) (s.shown xs)
          ∙ sym (sort_push [] (map (row_in xs) hs) (row_in xs new))
          ∙ ap sort_rows (sym (map-append (row_in xs) hs (new ∷ [])));
    } in
    (rows_are front items ∙ rows, carry front items after)

-- a drop is noted: bytes more behind the records
pub note_step : (j : Journal) {bs : List ℕ} {e : ℕ} (more : List ℕ) → e ≡ j.used + length more → bs ≡ records_of j ++ more → (map (row_in bs) (vec_items j.held) ≡ rows_of j) × Sound bs e (vec_items j.held) (vec_items j.index)
note_step j {e = e} more end front =
    let s = j.sound in
    let bs = records_of j ++ more in
    let hs = vec_items j.held in
    let same = same_more (records_of j) more 0 hs (laid_records j) in
    let rows = same_rows bs hs (records_of j) hs same in
    let after : Sound bs e hs (vec_items j.index) = record {
      laid = laid_wider 0 hs j.used e s.laid (omega arith);
      lie = same_lie bs hs (records_of j) hs same s.lie;
      few = s.few;
      distinct = subst Distinct (sym rows) s.distinct;
      formed = subst (λ (rs : List TableRow). Formed (table_of rs)) (sym rows) s.formed;
      shown = s.shown;
    } in
    (rows_are front refl ∙ rows, carry front refl after)

-- a row is forgotten
pub forget_step : (j : Journal) {hs is : List Held} (c n i : ℕ) → i < length (vec_items j.held) → remove (rows_of j) c n ≡ removed (rows_of j) i → hs ≡ removed (vec_items j.held) i → ((xs : List ℕ) → map (row_in xs) is ≡ sort_rows (map (row_in xs) hs)) → (map (row_in (records_of j)) hs ≡ remove (rows_of j) c n) × Sound (records_of j) j.used hs is
forget_step j {is = is} c n i within gone items shown =
    let s = j.sound in
    let bs = records_of j in
    let hs = vec_items j.held in
    let rows : map (row_in bs) (removed hs i) ≡ remove (rows_of j) c n = map_removed (row_in bs) hs i ∙ sym gone in
    let table : table_of (remove (rows_of j) c n) ≡ drop_model (journal_model j) c n = dropped_model j _ c n refl in
    let after : Sound bs j.used (removed hs i) is = record {
      laid = laid_removed 0 hs i j.used s.laid within;
      lie = lie_removed bs hs i s.lie within;
      few = few_removed hs i s.few within;
      distinct = subst Distinct (sym rows) (distinct_remove (rows_of j) c n s.distinct);
      formed = subst (λ (rs : List TableRow). Formed (table_of rs)) (sym rows)
          (subst Formed (sym table) (formed-drop (journal_model j) c n s.formed));
      shown = λ xs. shown xs ∙ ap (λ (ys : List Held). sort_rows (map (row_in xs) ys)) items;
    } in
    (rows_are refl items ∙ rows, carry refl items after)

-- the records are moved together
squeeze_step : (j : Journal) {bs : List ℕ} {e : ℕ} {hs is : List Held} → e ≡ total (vec_items j.held) → bs ≡ parts j.bytes.now (vec_items j.held) → hs ≡ relaid 0 (vec_items j.held) → ((xs : List ℕ) → map (row_in xs) is ≡ sort_rows (map (row_in xs) hs)) → (bs ≡ rows_bytes (rows_of j)) × (map (row_in bs) hs ≡ rows_of j) × (e ≤ 263 * length (rows_of j)) × Sound bs e hs is
squeeze_step j {bs} {e} {is = is} end moved items shown =
    let s = j.sound in
    let was = records_of j in
    let hs = vec_items j.held in
    let ps = parts was hs in
    let split : was ++ drop j.used j.bytes.now ≡ j.bytes.now = take-append-drop j.used j.bytes.now in
    let front : bs ≡ ps =
    moved ∙ ap (λ (xs : List ℕ). parts xs hs) (sym split) ∙ parts_front was (drop j.used j.bytes.now) 0 hs (laid_records j) in
    let same = same_relaid was 0 hs ps [] 0 (laid_records j) refl refl in
    let rows = same_rows ps (relaid 0 hs) was hs same in
    let most = total-few hs s.few in
    let counted = length-map hs (row_in was) in
    let after : Sound ps e (relaid 0 hs) is = record {
      laid = laid_wider 0 (relaid 0 hs) (0 + total hs) e (laid-relaid 0 hs) (omega arith);
      lie = same_lie ps (relaid 0 hs) was hs same s.lie;
      few = same_few ps (relaid 0 hs) was hs same s.few;
      distinct = subst Distinct (sym rows) s.distinct;
      formed = subst (λ (rs : List TableRow). Formed (table_of rs)) (sym rows) s.formed;
      shown = λ xs. shown xs ∙ ap (λ (ys : List Held). sort_rows (map (row_in xs) ys)) items;
    } in
    (front ∙ parts_rows was hs s.lie, rows_are front items ∙ rows, omega arith, carry front items after)

-- the same of records that are moved in the slice of their vector
pub squeezed : (j : Journal) {bs : List ℕ} {e : ℕ} {slice moved shown is : List Held} → slice ≡ vec_items j.held → length slice ≡ vec_len j.held → length moved ≡ length slice → e ≡ total slice → bs ≡ parts j.bytes.now slice → moved ≡ relaid 0 slice → shown ≡ vec_items (with_items j.held moved) → ((xs : List ℕ) → map (row_in xs) is ≡ sort_rows (map (row_in xs) shown)) → (bs ≡ rows_bytes (rows_of j)) × (map (row_in bs) (vec_items (with_items j.held moved)) ≡ rows_of j) × (e ≤ 263 * length (rows_of j)) × Sound bs e (vec_items (with_items j.held moved)) is
squeezed j {slice = slice} {moved = moved} value len same end front relaid_is shown rows =
    squeeze_step j (end ∙ ap total value) (front ∙ ap (parts j.bytes.now) value)
    (with_items_is j.held moved (same ∙ len) ∙ relaid_is ∙ ap (relaid 0) value)
    (λ xs. rows xs ∙ ap (λ (hs : List Held). sort_rows (map (row_in xs) hs)) shown)

-- how many there are
pub held_most : (j : Journal) → vec_len j.held ≤ 64
held_most j = omega (arith, rows_length j, j.held.ok.0)

pub held_count : (j : Journal) → length (rows_of j) ≡ vec_len j.held
held_count j = length-map (vec_items j.held) (row_in (records_of j)) ∙ sym j.held.ok.0

pub held_rows : (j : Journal) → length (journal_model j).table ≡ vec_len j.held
held_rows j = let sorted = length_onto (rows_of j) [] in omega (arith, held_count j)

-- what the place of the first record under a cluster and number tells of the table and of the rows
pub found_at : (j : Journal) {slice : List Held} (c n : ℕ) {i : ℕ} → slice ≡ vec_items j.held → Some i ≡ first_of slice c n → (i < length (vec_items j.held)) × ((d : Held) → lookup (journal_model j).table c n ≡ Some (row_in (records_of j) (get_or (vec_items j.held) i d)).words) × (remove (rows_of j) c n ≡ removed (rows_of j) i)
found_at j {slice} c n {i} shown is =
    let there = first_in (records_of j) (vec_items j.held) slice c n (Some i) shown is in
    (there.0, (λ d. lookup_sort (rows_of j) j.sound.distinct c n ∙ there.1 d), there.2)

pub found_none : (j : Journal) {slice : List Held} (c n : ℕ) → slice ≡ vec_items j.held → None ≡ first_of slice c n → (lookup (journal_model j).table c n ≡ None) × (remove (rows_of j) c n ≡ rows_of j)
found_none j {slice} c n shown is =
    let none = first_in (records_of j) (vec_items j.held) slice c n None shown is in
    (lookup_sort (rows_of j) j.sound.distinct c n ∙ none, remove_none (rows_of j) c n none)

-- the test that a journal makes is the one that its records are told by
keep_fits : (j : Journal) (c n : ℕ) (ws : List ℕ) → leb (length (records_of j) + length (keep_bytes (new_row c n ws))) 16832 ≡ leb (j.used + (7 + 8 * length ws)) 16832
keep_fits j c n ws =
    let len = records_length j in
    let sum = length-words_bytes ws in
    ap (λ k. leb k 16832) (omega arith)

-- the record of a row stands behind those that were there, or behind those that are held
pub kept_records : (j : Journal) (c n : ℕ) (ws bs : List ℕ) → bs ≡ cond (leb (j.used + (7 + 8 * length ws)) 16832) (records_of j) (rows_bytes (rows_of j)) → bs ++ keep_bytes (new_row c n ws) ≡ keep_records (records_of j) (rows_of j) (new_row c n ws)
kept_records j c n ws bs e =
    let row = new_row c n ws in
    ap (λ (xs : List ℕ). xs ++ keep_bytes row) e
    ∙ cond_both (leb (j.used + (7 + 8 * length ws)) 16832) (records_of j) (rows_bytes (rows_of j))
    (λ (xs : List ℕ). xs ++ keep_bytes row ≡ keep_records (records_of j) (rows_of j) row)
    (λ t. sym (cond-true _ _ _ (keep_fits j c n ws ∙ t)))
    (λ f. sym (cond-false _ _ _ (keep_fits j c n ws ∙ f)))

-- a row that may be kept is one of fewer than 64
pub few_rows : (j : Journal) (c n : ℕ) (ws : List ℕ) → keep_refusal (journal_model j) c n ws ≡ None → length (rows_of j) < 64
few_rows j c n ws free =
    let may = allowed (journal_model j) c n ws free in
    let below = may.room in
    let sorted = length_onto (rows_of j) [] in
    omega arith
