-- A move strikes only what lost work reaches: the first delivery that puts the entry at the sender's place or above directly follows the checkpoint that the search finds, and everything later is later than that delivery.
use Rattle.std.proofs.Common.{◌≡◌, ℕ, ◌+◌, ◌<◌, ◌≤◌, Bool, cond, ltb, ◌⊎◌, List, [], ◌∷◌, sym, refl, ap, ◌∙◌, subst, inl, inr, arith}
use Rattle.std.proofs.lemmas.Bool.{ltb-true, ltb-false, cases_lt}
use Rattle.law.specs.Events.{Event, Lists, ◌∈◌, Later, After, back, number, saves}
use Rattle.law.specs.Chains.{Chain, itself, later, delivered, Reached}
use Rattle.law.proofs.Lists.{Part, part_in, part_one, part-number, after-part, part-later, back-part, back-number, cond_ways}
use Rattle.law.proofs.Facts.{Messages, Rows, Fresh}

pub ltb_ways : {A : Type 0} (a b : ℕ) (x y : A) → ((a < b) × (cond (ltb a b) x y ≡ x)) ⊎ ((b ≤ a) × (cond (ltb a b) x y ≡ y))
ltb_ways a b x y =
    elim (cond_ways (ltb a b) x y) [ inl p ↦ inl (ltb-true a b p.0, p.1) | inr p ↦ inr (ltb-false a b p.0, p.1) ]

-- the longest part of a list whose entry for i is below s
abbrev pub under : (ℕ → List Event → ℕ) → ℕ → ℕ → List Event → List Event
under row i s [] = []
under row i s (x ∷ L) = cond (ltb (row i (x ∷ L)) s) (x ∷ L) (under row i s L)

pub under_all : (row : ℕ → List Event → ℕ) (i s : ℕ) (L : List Event) → row i L < s → under row i s L ≡ L
under_all row i s [] h = refl
under_all row i s (x ∷ L) h =
    elim (ltb_ways (row i (x ∷ L)) s (x ∷ L) (under row i s L)) [ inl w ↦ w.1 | inr w ↦ (let k = w.0 in absurd (omega arith)) ]

pub under_more : (row : ℕ → List Event → ℕ) (i s : ℕ) (x : Event) (L : List Event) → s ≤ row i (x ∷ L) → under row i s (x ∷ L) ≡ under row i s L
under_more row i s x L h =
    elim (ltb_ways (row i (x ∷ L)) s (x ∷ L) (under row i s L)) [ inl w ↦ (let k = w.0 in absurd (omega arith)) | inr w ↦ w.1 ]

-- the event that first puts the entry for i at s or above, and what came before it
pub record First (row : ℕ → List Event → ℕ) (i s : ℕ) (B : List Event) : Type 0 where
  pub event : Event
  pub before : List Event
  pub part : Part event before B
  pub below : row i before < s
  pub reaches : s ≤ row i (event ∷ before)
  pub is : under row i s B ≡ before

pub first : (H : Lists) (row : ℕ → List Event → ℕ) → Rows H row → (i s : ℕ) → 1 ≤ s → (B : List Event) → s ≤ row i B → First row i s B
first H row rs i s one [] h = let n = rs.none i in absurd (omega arith)
first H row rs i s one (x ∷ L) h =
    elim (cases_lt (row i L) s) [
      | inl b ↦ record { event = x; before = L; part = inl (refl, refl); below = b; reaches = h; is = under_more row i s x L h ∙ under_all row i s L b }
      | inr b ↦ (let f = first H row rs i s one L b in
          record { event = f.event; before = f.before; part = inr f.part; below = f.below; reaches = f.reaches; is = under_more row i s x L h ∙ f.is })
    ]

-- two events of a list: the same place, or one before the other
pub part_order : (L : List Event) (g e : Event) (R S : List Event) → Part g R L → Part e S L → (e ≡ g) ⊎ ((g ∈ S) ⊎ Part e S R)
part_order [] g e R S p q = elim p [ ]
part_order (x ∷ L) g e R S (inl p) (inl q) = inl (q.0 ∙ sym p.0)
part_order (x ∷ L) g e R S (inl p) (inr q) = inr (inr (subst (λ (z : List Event). Part e S z) (sym p.1) q))
part_order (x ∷ L) g e R S (inr p) (inl q) = inr (inl (subst (λ (z : List Event). g ∈ z) (sym q.1) (part_in L g R p)))
part_order (x ∷ L) g e R S (inr p) (inr q) = part_order L g e R S p q

-- below a fresh checkpoint every number is lower
pub fresh_number : (R : List Event) → Fresh R → (e : Event) (S : List Event) → Part e S R → number S < number R
fresh_number R f e S p =
    let q = subst (λ (z : List Event). Part e S z) f.is p in
    let a : number R ≡ saves f.top + number f.rest = ap number f.is in
    let b = f.saves_top in
    elim q [
      | inl h ↦ (let c : number S ≡ number f.rest = ap number h.1 in omega arith)
      | inr h ↦ (let c = part-number f.rest e S h in omega arith)
    ]

-- what comes after a fresh checkpoint is the event that follows it, or later
pub after_fresh : (L : List Event) (g : Event) (R : List Event) → Part g R L → Fresh R → (e : Event) → After (number R) L e → (e ≡ g) ⊎ Later L g e
after_fresh L g R p f e h =
    let q = after-part (number R) L e h in
    elim (part_order L g e R q.0 p q.1) [
      | inl a ↦ inl a
      | inr a ↦ elim a [
        | inl b ↦ inr (part-later L g e q.0 q.1 b)
        | inr b ↦ (let c = fresh_number R f e q.0 b in let d = q.2 in absurd (omega arith))
      ]
    ]

pub chain_trans : (H : Lists) (f i : ℕ) (x y : Event) (j : ℕ) (e : Event) → Chain H f x i y → Chain H i y j e → Chain H f x j e
chain_trans H f i x y j e c (itself h) = c
chain_trans H f i x y j e c (later {a = b} d l) = later (chain_trans H f i x y j b c d) l
chain_trans H f i x y j e c (delivered {j = k} {t} {m} k' u d g) = delivered k' u (chain_trans H f i x y k _ c d) g

pub reached_chain : (H : Lists) (failed : ℕ → Bool) (i j : ℕ) (y e : Event) → Reached H failed i y → Chain H i y j e → Reached H failed j e
reached_chain H failed i j y e r c =
    record { cluster = r.cluster; event = r.event; lost = r.lost; chain = chain_trans H r.cluster i r.event y j e r.chain c }

-- everything that these places strike is reached from lost work
abbrev pub OnlyReached : Lists → (ℕ → Bool) → (ℕ → ℕ) → Type 0
OnlyReached H failed P = (j : ℕ) (e : Event) → After (P j) (H j) e → Reached H failed j e

-- the move of cluster j to q, called by cluster i at place s
pub record Move (H : Lists) (row : ℕ → List Event → ℕ) (failed : ℕ → Bool) (i j s from : ℕ) (q : ℕ) : Type 0 where
  -- the first delivery that reaches s, and the checkpoint before it
  pub event : Event
  pub before : List Event
  pub part : Part event before (H j)
  pub fresh : Fresh before
  pub below : row i before < s
  pub reaches : s ≤ row i (event ∷ before)
  pub is : q ≡ number before
  pub lower : q < from
  pub positive : 1 ≤ q
  pub only : (e : Event) → After q (H j) e → Reached H failed j e
  -- the checkpoint is kept, where lost work reaches nothing at or before an oldest kept checkpoint
  pub kept : (oldest : ℕ) → ((e : Event) → Reached H failed j e → After oldest (H j) e) → oldest ≤ q

module _ (H : Lists) (row : ℕ → List Event → ℕ) (failed : ℕ → Bool) (P : ℕ → ℕ) (ms : Messages H) (rs : Rows H row) (only : OnlyReached H failed P)
    (i j : ℕ) (one : 1 ≤ P i) (calls : P i ≤ row i (back (P j) (H j))) where
  pub found : First row i (P i) (back (P j) (H j))
  found = first H row rs i (P i) one (back (P j) (H j)) calls

  pub whole : Part found.event found.before (H j)
  whole = back-part (P j) (H j) found.event found.before found.part

  pub fresh_before : Fresh found.before
  fresh_before =
      let a = found.below in
      let b = found.reaches in
      rs.fresh j i found.event found.before whole (omega arith)

  pub first_reached : Reached H failed j found.event
  first_reached =
      let s = rs.source j i (P i) found.event found.before whole found.below found.reaches in
      reached_chain H failed i j s.0 found.event (only i s.0 s.1) s.2

  -- the new place
  abbrev pub moved_to : ℕ
  moved_to = number (under row i (P i) (back (P j) (H j)))

  pub moved_is : moved_to ≡ number found.before
  moved_is = ap number found.is

  pub move_only : (e : Event) → After moved_to (H j) e → Reached H failed j e
  move_only e h =
      elim (after_fresh (H j) found.event found.before whole fresh_before e (subst (λ (n : ℕ). After n (H j) e) moved_is h)) [
        | inl a ↦ subst (λ (z : Event). Reached H failed j z) (sym a) first_reached
        | inr a ↦ reached_chain H failed j j found.event e first_reached (later (itself (part_in (H j) found.event found.before whole)) a)
      ]

  pub move_lower : moved_to < P j
  move_lower =
      let a = moved_is in
      let b = back-number (P j) (H j) found.event found.before found.part in
      omega arith

  -- the checkpoint that the search finds is kept, where lost work reaches nothing at or before an oldest kept checkpoint
  pub move_kept : (oldest : ℕ) → ((e : Event) → Reached H failed j e → After oldest (H j) e) → oldest ≤ moved_to
  move_kept oldest safe =
      let q = after-part oldest (H j) found.event (safe found.event first_reached) in
      let e : number q.0 ≡ number found.before = ap number (part_one (H j) found.event q.0 found.before (ms.timed j) q.1 whole) in
      let a = moved_is in
      let b = q.2 in
      omega arith

  pub move_positive : 1 ≤ moved_to
  move_positive =
      let a = moved_is in
      let b : number found.before ≡ saves fresh_before.top + number fresh_before.rest = ap number fresh_before.is in
      let c = fresh_before.saves_top in
      omega arith

  pub move : (q : ℕ) × Move H row failed i j (P i) (P j) q
  move = (
    moved_to,
    record {
      event = found.event;
      before = found.before;
      part = whole;
      fresh = fresh_before;
      below = found.below;
      reaches = found.reaches;
      is = moved_is;
      lower = move_lower;
      positive = move_positive;
      only = move_only;
      kept = move_kept;
    },
  )
