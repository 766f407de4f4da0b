-- Rows taken from the front one by one, or put behind one another in their order, pass through every front and
-- every rest of a rising table.
use Rattle.std.proofs.Common.{◌≡◌, ℕ, zero, suc, ◌+◌, ◌<◌, ◌≤◌, Bool, true, false, cond, leb, List, [], ◌∷◌, length, get_or, take, Some, None, Ok, Err, Option, unwrap_or, sym, refl, ap, ◌∙◌, subst, add-one, arith}
use Rattle.std.proofs.lemmas.Bool.{leb-true, le-leb, cond-true}
use Rattle.std.proofs.lemmas.List.{take_at, length-take-le}
use Rattle.std.specs.Option.{ok_or}
use Rattle.refusal.specs.declared.StoreRefusal.{StoreRefusal}
use Rattle.refusal.specs.declared.StoreRefusal.TheVariants.{WordCount}
use Rattle.refusal.specs.Answers.{unless_refused, replied}
use Rattle.store.specs.declared.RowKey.{RowKey}
use Rattle.store.specs.Table.{TableRow, Model, row_at, key_of, lookup, insert, words_fit, over, read_refused, read_refusal, read_count, read_buffer, position_at, keep_model, with_table}
use Rattle.store.specs.Formed.{Formed}
use Rattle.store.proofs.Orders.{both_true}
use Rattle.store.proofs.Tables.{new_row, some_none, row_at_lem, lookup_at, lookup_front, insert_front, sized_at, Allowed, keep_free, keep_allowed}

-- there is a row at each position below the count
pub row_there : (rows : List TableRow) (i : ℕ) (why : StoreRefusal) → i < length rows → Err why ≡ ok_or (row_at rows i) WordCount → ⊥
row_there [] i why within e = omega arith
row_there (row ∷ rows) zero why within e = let z : ◌≡◌ {A = ℕ} 0 1 = cc in omega arith
row_there (row ∷ rows) (suc i) why within e = row_there rows i why (omega arith) e

abbrev any : TableRow
any = record { cluster = 0; number = 0; words = [] }

pub key_there : (rows : List TableRow) (i : ℕ) (key : RowKey) → i < length rows → Ok key ≡ ok_or (row_at rows i) WordCount → key ≡ key_of (get_or rows i any)
key_there rows i key within e = let at = row_at_lem rows i any within in cc

-- words that were read stand in front of the buffer
read_fits : (fits : Bool) (ws buffer buffer' : List ℕ) (count : ℕ) → Ok count ≡ replied (cond fits None (Some WordCount)) (length ws) → buffer' ≡ unless_refused (cond fits None (Some WordCount)) buffer (over ws buffer) → take count buffer' ≡ ws
read_fits true ws buffer buffer' count e b = let is : length ws ≡ count = cc in ap (take count) b ∙ take_at ws _ count is
read_fits false ws buffer buffer' count e b = let z : ◌≡◌ {A = ℕ} 0 1 = cc in absurd (omega arith)

read_held : (held : Option (List ℕ)) (ws buffer buffer' : List ℕ) (count : ℕ) → held ≡ Some ws → Ok count ≡ replied (read_refused held (length buffer)) (length (unwrap_or held [])) → buffer' ≡ unless_refused (read_refused held (length buffer)) buffer (over (unwrap_or held []) buffer) → take count buffer' ≡ ws
read_held None ws buffer buffer' count h e b = absurd (some_none (sym h))
read_held (Some w) ws buffer buffer' count h e b =
    let is : w ≡ ws = cc in read_fits (leb (length w) (length buffer)) w buffer buffer' count e b ∙ is

read_refused_lem : (held : Option (List ℕ)) (ws : List ℕ) (room : ℕ) (count : ℕ) (why : StoreRefusal) → held ≡ Some ws → length ws ≤ room → Err why ≡ replied (read_refused held room) count → ⊥
read_refused_lem None ws room count why h le e = some_none (sym h)
read_refused_lem (Some w) ws room count why h le e =
    let same : length w ≡ length ws = ap length (some_same h) in
    let open' : read_refused (Some w) room ≡ None = cond-true _ _ _ (le-leb (length w) room (omega arith)) in
    let z : ◌≡◌ {A = ℕ} 0 1 = cc in omega arith
  where
    some_same : Some w ≡ Some ws → w ≡ ws
    some_same p = cc

module _ (from : Model) (formed : Formed from) (at : ℕ) (within : at < length from.table) (key : RowKey) (told-key : Ok key ≡ position_at from at) where
  key_is : key ≡ key_of (get_or from.table at any)
  key_is = key_there from.table at key within told-key

  held : lookup from.table key.cluster key.number ≡ Some (get_or from.table at any).words
  held =
      subst (λ (k : RowKey). lookup from.table k.cluster k.number ≡ Some (get_or from.table at any).words) (sym key_is)
      (lookup_at from.table at any formed.rising within)

  -- a row that stands at a position is read into a buffer for 32 words
  pub read_there : (room count : ℕ) (why : StoreRefusal) → 32 ≤ room → Err why ≡ replied (read_refusal from key.cluster key.number room) count → ⊥
  read_there room count why le e =
      let words = (get_or from.table at any).words in
      let few = leb-true (length words) 32 (both_true (leb 1 (length words)) (leb (length words) 32) (sized_at from.table at any formed.sized within)).1 in
      read_refused_lem (lookup from.table key.cluster key.number) words room count why held (omega arith) e

  -- and kept behind those before it
  pub copied : (to : Model) (count : ℕ) (buffer buffer' ws : List ℕ) → at < to.capacity → to.table ≡ take at from.table → Ok count ≡ replied (read_refusal from key.cluster key.number (length buffer)) (read_count from key.cluster key.number) → buffer' ≡ read_buffer from key.cluster key.number buffer → ws ≡ take count buffer' → keep_model to key.cluster key.number ws ≡ with_table to (take (at + 1) from.table)
  copied to count buffer buffer' ws room front e b w =
      let rows = from.table in
      let words : ws ≡ (get_or rows at any).words =
      w ∙ read_held (lookup rows key.cluster key.number) (get_or rows at any).words buffer buffer' count held e b in
      let long : length to.table ≡ at = ap length front ∙ length-take-le at rows (omega arith) in
      let free : lookup to.table key.cluster key.number ≡ None =
      ap (λ (k : RowKey). lookup to.table k.cluster k.number) key_is
      ∙ ap (λ (ts : List TableRow). lookup ts (get_or rows at any).cluster (get_or rows at any).number) front
      ∙ lookup_front rows at any formed.rising within in
      let may : Allowed to key.cluster key.number ws = record {
        fit = ap (λ (v : List ℕ). words_fit (length v)) words ∙ sized_at rows at any formed.sized within;
        free = free;
        room = omega arith;
      } in
      let new : new_row key.cluster key.number ws ≡ get_or rows at any =
      ap (λ (k : RowKey). new_row k.cluster k.number ws) key_is
      ∙ ap (new_row (get_or rows at any).cluster (get_or rows at any).number) words in
      keep_allowed to key.cluster key.number ws (keep_free to key.cluster key.number ws may)
      ∙ ap (with_table to) (ap (λ (r : TableRow). insert r to.table) new ∙ ap (insert (get_or rows at any)) front
      ∙ insert_front rows at any formed.rising within ∙ ap (λ k. take k rows) (sym (add-one at)))

-- a call that told something was not refused
pub not_refused : {A : Type 0} (why : Option StoreRefusal) (told x : A) → Ok told ≡ replied why x → why ≡ None
not_refused None told x e = refl
not_refused (Some why) told x e = let z : ◌≡◌ {A = ℕ} 0 1 = cc in absurd (omega arith)
