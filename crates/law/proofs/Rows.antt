-- A table in which no pair stands twice: what a look-up finds after a row is added or removed.
use Rattle.std.proofs.Common.{◌≡◌, ℕ, Bool, true, false, cond, eqb, ◌⊎◌, List, [], ◌∷◌, Some, None, Option, sym, refl, ap, ◌∙◌, subst, inl, inr, arith}
use Rattle.std.proofs.lemmas.Bool.{eqb-true, eqb-false, true≢false}
use Rattle.store.specs.Table.{TableRow, Model, lookup, insert, remove, under, before, drop_model, both}
use Rattle.law.specs.declared.Checkpoint.{Checkpoint}
use Rattle.law.specs.Restarts.{discard}
use Rattle.law.specs.Law.{Among, Unique}
use Rattle.law.proofs.Lists.{cond_ways}

pub under_ways : {A : Type 0} (c n : ℕ) (row : TableRow) (x y : A) →
    ((row.cluster ≡ c) × (row.number ≡ n) × (cond (under c n row) x y ≡ x)) ⊎ ((row.cluster ≡ c → row.number ≡ n → ⊥) × (cond (under c n row) x y ≡ y))
under_ways c n row x y = go (eqb row.cluster c) (eqb row.number n) refl refl
  where
    go : (a b : Bool) → eqb row.cluster c ≡ a → eqb row.number n ≡ b →
        ((row.cluster ≡ c) × (row.number ≡ n) × (cond (both a b) x y ≡ x)) ⊎ ((row.cluster ≡ c → row.number ≡ n → ⊥) × (cond (both a b) x y ≡ y))
    go true true e f = inl (eqb-true row.cluster c e, eqb-true row.number n f, refl)
    go true false e f = inr ((λ _ q. eqb-false row.number n f q), refl)
    go false b e f = inr ((λ p _. eqb-false row.cluster c e p), refl)

none_some : {A : Type 0} (a : A) → ◌≡◌ {A = Option A} None (Some a) → ⊥
none_some a e = let z : ◌≡◌ {A = ℕ} 0 1 = cc in omega arith

-- what a look-up that finds nothing says of the first row and the rest
pub lookup_rest : (row : TableRow) (rows : List TableRow) (c n : ℕ) → lookup (row ∷ rows) c n ≡ None → (row.cluster ≡ c → row.number ≡ n → ⊥) × (lookup rows c n ≡ None)
lookup_rest row rows c n h =
    elim (under_ways c n row (Some row.words) (lookup rows c n)) [
      | inl w ↦ absurd (none_some row.words (sym h ∙ w.2))
      | inr w ↦ (w.0, sym w.1 ∙ h)
    ]

pub insert_same : (t : List TableRow) (c n : ℕ) (ws : List ℕ) → lookup t c n ≡ None → lookup (insert (record { cluster = c; number = n; words = ws }) t) c n ≡ Some ws
insert_same [] c n ws h =
    elim (under_ways c n (record { cluster = c; number = n; words = ws }) (Some ws) None) [ inl w ↦ w.2 | inr w ↦ absurd (w.0 refl refl) ]
insert_same (row ∷ rows) c n ws h =
    elim (cond_ways (before c n row) (new ∷ row ∷ rows) (row ∷ insert new rows)) [
      | inl w ↦ ap (λ (z : List TableRow). lookup z c n) w.1 ∙ elim (under_ways c n new (Some ws) (lookup (row ∷ rows) c n)) [ inl v ↦ v.2 | inr v ↦ absurd (v.0 refl refl) ]
      | inr w ↦ ap (λ (z : List TableRow). lookup z c n) w.1 ∙ elim (under_ways c n row (Some row.words) (lookup (insert new rows) c n)) [
        | inl v ↦ absurd ((lookup_rest row rows c n h).0 v.0 v.1)
        | inr v ↦ v.1 ∙ insert_same rows c n ws (lookup_rest row rows c n h).1
      ]
    ]
  where
    new : TableRow
    new = record { cluster = c; number = n; words = ws }

pub insert_other : (t : List TableRow) (c n : ℕ) (ws : List ℕ) (d m : ℕ) → (c ≡ d → n ≡ m → ⊥) → lookup (insert (record { cluster = c; number = n; words = ws }) t) d m ≡ lookup t d m
insert_other [] c n ws d m ne =
    elim (under_ways d m (record { cluster = c; number = n; words = ws }) (Some ws) None) [ inl w ↦ absurd (ne w.0 w.1) | inr w ↦ w.1 ]
insert_other (row ∷ rows) c n ws d m ne =
    elim (cond_ways (before c n row) (new ∷ row ∷ rows) (row ∷ insert new rows)) [
      | inl w ↦ ap (λ (z : List TableRow). lookup z d m) w.1 ∙ elim (under_ways d m new (Some ws) (lookup (row ∷ rows) d m)) [ inl v ↦ absurd (ne v.0 v.1) | inr v ↦ v.1 ]
      | inr w ↦ ap (λ (z : List TableRow). lookup z d m) w.1 ∙ ap (λ (z : Option (List ℕ)). cond (under d m row) (Some row.words) z) (insert_other rows c n ws d m ne)
    ]
  where
    new : TableRow
    new = record { cluster = c; number = n; words = ws }

pub unique-insert : (t : List TableRow) (c n : ℕ) (ws : List ℕ) → lookup t c n ≡ None → Unique t → Unique (insert (record { cluster = c; number = n; words = ws }) t)
unique-insert [] c n ws h u = (refl, tt)
unique-insert (row ∷ rows) c n ws h u =
    elim (cond_ways (before c n row) (new ∷ row ∷ rows) (row ∷ insert new rows)) [
      | inl w ↦ subst Unique (sym w.1) (h, u)
      | inr w ↦ subst Unique (sym w.1) (
        insert_other rows c n ws row.cluster row.number (λ e f. (lookup_rest row rows c n h).0 (sym e) (sym f)) ∙ u.0,
        unique-insert rows c n ws (lookup_rest row rows c n h).1 u.1,
      )
    ]
  where
    new : TableRow
    new = record { cluster = c; number = n; words = ws }

pub remove_same : (t : List TableRow) (c n : ℕ) → Unique t → lookup (remove t c n) c n ≡ None
remove_same [] c n u = refl
remove_same (row ∷ rows) c n u =
    elim (under_ways c n row rows (row ∷ remove rows c n)) [
      | inl w ↦ ap (λ (z : List TableRow). lookup z c n) w.2 ∙ subst (λ (z : ℕ). lookup rows c z ≡ None) w.1 (subst (λ (z : ℕ). lookup rows z row.number ≡ None) w.0 u.0)
      | inr w ↦ ap (λ (z : List TableRow). lookup z c n) w.1 ∙ elim (under_ways c n row (Some row.words) (lookup (remove rows c n) c n)) [
        | inl v ↦ absurd (w.0 v.0 v.1)
        | inr v ↦ v.1 ∙ remove_same rows c n u.1
      ]
    ]

pub remove_other : (t : List TableRow) (c n d m : ℕ) → (c ≡ d → n ≡ m → ⊥) → lookup (remove t c n) d m ≡ lookup t d m
remove_other [] c n d m ne = refl
remove_other (row ∷ rows) c n d m ne =
    elim (under_ways c n row rows (row ∷ remove rows c n)) [
      | inl w ↦ ap (λ (z : List TableRow). lookup z d m) w.2 ∙ sym (elim (under_ways d m row (Some row.words) (lookup rows d m)) [
        | inl v ↦ absurd (ne (sym w.0 ∙ v.0) (sym w.1 ∙ v.1))
        | inr v ↦ v.1
      ])
      | inr w ↦ ap (λ (z : List TableRow). lookup z d m) w.1 ∙ ap (λ (z : Option (List ℕ)). cond (under d m row) (Some row.words) z) (remove_other rows c n d m ne)
    ]

pub remove_none : (t : List TableRow) (c n d m : ℕ) → Unique t → lookup t d m ≡ None → lookup (remove t c n) d m ≡ None
remove_none [] c n d m u h = refl
remove_none (row ∷ rows) c n d m u h =
    elim (under_ways c n row rows (row ∷ remove rows c n)) [
      | inl w ↦ ap (λ (z : List TableRow). lookup z d m) w.2 ∙ (lookup_rest row rows d m h).1
      | inr w ↦ ap (λ (z : List TableRow). lookup z d m) w.1 ∙ elim (under_ways d m row (Some row.words) (lookup (remove rows c n) d m)) [
        | inl v ↦ absurd ((lookup_rest row rows d m h).0 v.0 v.1)
        | inr v ↦ v.1 ∙ remove_none rows c n d m u.1 (lookup_rest row rows d m h).1
      ]
    ]

pub unique-remove : (t : List TableRow) (c n : ℕ) → Unique t → Unique (remove t c n)
unique-remove [] c n u = tt
unique-remove (row ∷ rows) c n u =
    elim (under_ways c n row rows (row ∷ remove rows c n)) [
      | inl w ↦ subst Unique (sym w.2) u.1
      | inr w ↦ subst Unique (sym w.1) (remove_none rows c n row.cluster row.number u.1 u.0, unique-remove rows c n u.1)
    ]

abbrev pub dropped : ℕ → (ℕ → Bool) → Checkpoint → Model → Model
dropped i gone c m = cond (gone c.number) (drop_model m i c.number) m

pub dropped_unique : (i : ℕ) (gone : ℕ → Bool) (c : Checkpoint) (m : Model) → Unique m.table → Unique (dropped i gone c m).table
dropped_unique i gone c m u =
    elim (cond_ways (gone c.number) (drop_model m i c.number) m) [
      | inl w ↦ subst (λ (z : Model). Unique z.table) (sym w.1) (unique-remove m.table i c.number u)
      | inr w ↦ subst (λ (z : Model). Unique z.table) (sym w.1) u
    ]

pub discard-unique : (i : ℕ) (gone : ℕ → Bool) (cs : List Checkpoint) (m : Model) → Unique m.table → Unique (discard i gone cs m).table
discard-unique i gone [] m u = u
discard-unique i gone (c ∷ cs) m u = discard-unique i gone cs (dropped i gone c m) (dropped_unique i gone c m u)

-- what is not to go stays
pub discard_other : (i : ℕ) (gone : ℕ → Bool) (cs : List Checkpoint) (m : Model) (d k : ℕ) → (i ≡ d → gone k ≡ true → ⊥) → lookup (discard i gone cs m).table d k ≡ lookup m.table d k
discard_other i gone [] m d k ne = refl
discard_other i gone (c ∷ cs) m d k ne =
    discard_other i gone cs (dropped i gone c m) d k ne
    ∙ elim (cond_ways (gone c.number) (drop_model m i c.number) m) [
      | inl w ↦ ap (λ (z : Model). lookup z.table d k) w.1 ∙ remove_other m.table i c.number d k (λ e f. ne e (ap gone (sym f) ∙ w.0))
      | inr w ↦ ap (λ (z : Model). lookup z.table d k) w.1
    ]

pub discard_none : (i : ℕ) (gone : ℕ → Bool) (cs : List Checkpoint) (m : Model) (d k : ℕ) → Unique m.table → lookup m.table d k ≡ None → lookup (discard i gone cs m).table d k ≡ None
discard_none i gone [] m d k u h = h
discard_none i gone (c ∷ cs) m d k u h =
    discard_none i gone cs (dropped i gone c m) d k (dropped_unique i gone c m u)
    (elim (cond_ways (gone c.number) (drop_model m i c.number) m) [
      | inl w ↦ ap (λ (z : Model). lookup z.table d k) w.1 ∙ remove_none m.table i c.number d k u h
      | inr w ↦ ap (λ (z : Model). lookup z.table d k) w.1 ∙ h
    ])

-- what is to go, and is among the checkpoints, goes
pub discard-gone : (i : ℕ) (gone : ℕ → Bool) (cs : List Checkpoint) (m : Model) (c : Checkpoint) → Unique m.table → Among c cs → gone c.number ≡ true → lookup (discard i gone cs m).table i c.number ≡ None
discard-gone i gone [] m c u h g = elim h [ ]
discard-gone i gone (x ∷ cs) m c u h g =
    elim h [
      | inl e ↦ (
          let n : c.number ≡ x.number = ap (λ (z : Checkpoint). z.number) e in
          discard_none i gone cs (dropped i gone x m) i c.number (dropped_unique i gone x m u)
          (elim (cond_ways (gone x.number) (drop_model m i x.number) m) [
            | inl w ↦ ap (λ (z : Model). lookup z.table i c.number) w.1 ∙ ap (λ (z : ℕ). lookup (remove m.table i x.number) i z) n ∙ remove_same m.table i x.number u
            | inr w ↦ absurd (true≢false (sym g ∙ ap gone n ∙ w.0))
          ]))
      | inr a ↦ discard-gone i gone cs (dropped i gone x m) c (dropped_unique i gone x m u) a g
    ]
