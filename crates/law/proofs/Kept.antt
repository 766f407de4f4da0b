-- A cluster of the book agrees with its events: its row and the row of every kept checkpoint tell what was heard, so the search in the book finds the place that the events ask for.
use Rattle.store.specs.Table.{both}
use Rattle.std.proofs.Common.{◌≡◌, ℕ, ◌+◌, ◌<◌, ◌≤◌, Bool, true, false, cond, ltb, ◌⊎◌, List, [], ◌∷◌, length, Some, None, Option, sym, refl, ap, ◌∙◌, subst, inl, inr, arith}
use Rattle.std.proofs.lemmas.Bool.{ltb-true, ltb-false}
use Rattle.law.specs.declared.Checkpoint.{Checkpoint}
use Rattle.law.specs.Book.{Cluster, entry, checkpoint_at}
use Rattle.law.specs.Restarts.{latest}
use Rattle.law.specs.Law.{Among}
use Rattle.law.specs.Events.{Event, saved, sent, got, back, number, saves, heard, brings}
use Rattle.law.proofs.Lists.{Part, part-number, back_ways, eqb_ways}
use Rattle.law.proofs.Facts.{Fresh}
use Rattle.law.proofs.Cuts.{back_reaches}

pub saves_one : (x : Event) → saves x ≤ 1
saves_one (saved t ws) = omega arith
saves_one (sent t m) = omega arith
saves_one (got t m) = omega arith

pub number-back : (p : ℕ) (L : List Event) → p ≤ number L → number (back p L) ≤ p
number-back p [] h = omega arith
number-back p (x ∷ L) h =
    elim (back_ways p x L) [
      | inl w ↦ subst (λ (z : List Event). number z ≤ p) (sym w.1) (number-back p L w.0)
      | inr w ↦ subst (λ (z : List Event). number z ≤ p) (sym w.1) (let a = saves_one x in let b = w.0 in omega arith)
    ]

pub number_back_is : (p : ℕ) (L : List Event) → p ≤ number L → number (back p L) ≡ p
number_back_is p L h = let a = number-back p L h in let b = back_reaches p L h in omega arith

-- going back twice is going back to the lower place
pub back-back : (p q : ℕ) (L : List Event) → p ≤ q → back p (back q L) ≡ back p L
back-back p q [] h = refl
back-back p q (x ∷ L) h =
    elim (back_ways q x L) [
      | inl w ↦ elim (back_ways p x L) [
        | inl v ↦ ap (back p) w.1 ∙ back-back p q L h ∙ sym v.1
        | inr v ↦ (let a = w.0 in let b = v.0 in absurd (omega arith))
      ]
      | inr w ↦ ap (back p) w.1
    ]

pub heard-back : (i p : ℕ) (L : List Event) → heard i (back p L) ≤ heard i L
heard-back i p [] = omega arith
heard-back i p (x ∷ L) =
    elim (back_ways p x L) [
      | inl w ↦ subst (λ (z : List Event). heard i z ≤ heard i (x ∷ L)) (sym w.1) (let a = heard-back i p L in omega arith)
      | inr w ↦ subst (λ (z : List Event). heard i z ≤ heard i (x ∷ L)) (sym w.1) (omega arith)
    ]

pub heard-lower : (i p q : ℕ) (L : List Event) → p ≤ q → heard i (back p L) ≤ heard i (back q L)
heard-lower i p q L h =
    subst (λ (z : List Event). heard i z ≤ heard i (back q L)) (back-back p q L h) (heard-back i p (back q L))

pub heard-part : (i : ℕ) (L : List Event) (g : Event) (R : List Event) → Part g R L → heard i (g ∷ R) ≤ heard i L
heard-part i [] g R p = elim p [ ]
heard-part i (x ∷ L) g R p =
    elim p [
      | inl q ↦ (
          let a : brings i g ≡ brings i x = ap (brings i) q.0 in
          let b : heard i R ≡ heard i L = ap (heard i) q.1 in
          omega arith)
      | inr q ↦ (let a = heard-part i L g R q in omega arith)
    ]

-- a checkpoint later than an event has heard what that event brings
pub heard_at : (i k : ℕ) (L : List Event) (g : Event) (R : List Event) → Part g R L → number R < k → heard i (g ∷ R) ≤ heard i (back k L)
heard_at i k [] g R p h = elim p [ ]
heard_at i k (x ∷ L) g R p h =
    elim (back_ways k x L) [
      | inl w ↦ subst (λ (z : List Event). heard i (g ∷ R) ≤ heard i z) (sym w.1) (elim p [
        | inl q ↦ (let a : number R ≡ number L = ap number q.1 in let b = w.0 in absurd (omega arith))
        | inr q ↦ heard_at i k L g R q h
      ])
      | inr w ↦ subst (λ (z : List Event). heard i (g ∷ R) ≤ heard i z) (sym w.1) (heard-part i (x ∷ L) g R p)
    ]

-- going back to the checkpoint directly below an event leaves just what was there
pub back_fresh : (L : List Event) (g : Event) (R : List Event) → Part g R L → Fresh R → back (number R) L ≡ R
back_fresh [] g R p f = elim p [ ]
back_fresh (x ∷ L) g R p f =
    elim (back_ways (number R) x L) [
      | inl w ↦ w.1 ∙ elim p [
        | inl q ↦ ap (λ (z : List Event). back (number R) z) (sym q.1) ∙ itself-back
        | inr q ↦ back_fresh L g R q f
      ]
      | inr w ↦ elim p [
        | inl q ↦ (let a : number R ≡ number L = ap number q.1 in let b = w.0 in absurd (omega arith))
        | inr q ↦ (let a = part-number L g R q in let b = w.0 in absurd (omega arith))
      ]
    ]
  where
    itself-back : back (number R) R ≡ R
    itself-back =
        let a : number R ≡ saves f.top + number f.rest = ap number f.is in
        let b = f.saves_top in
        ap (λ (z : List Event). back (number R) z) f.is
        ∙ elim (back_ways (number R) f.top f.rest) [
          | inl w ↦ (let c = w.0 in absurd (omega arith))
          | inr w ↦ w.1
        ]
        ∙ sym f.is

-- a row of cluster i tells its own number and what was heard from every other
pub record Row_is (n i : ℕ) (row : List ℕ) (L : List Event) : Type 0 where
  pub long : length row ≡ 8
  pub own : entry row i ≡ number L
  pub others : (k : ℕ) → k < n → (k ≡ i → ⊥) → entry row k ≡ heard k L

-- the numbers of checkpoints rise
abbrev pub Rising : List Checkpoint → Type 0
Rising [] = Unit {0}
Rising (c ∷ cs) = ((k : Checkpoint) → Among k cs → c.number < k.number) × Rising cs

pub record ClusterAgrees (n i : ℕ) (c : Cluster) (oldest : ℕ) (L : List Event) : Type 0 where
  pub live : Row_is n i c.row L
  pub rising : Rising c.kept
  pub kept_in : (k : Checkpoint) → Among k c.kept → (oldest ≤ k.number) × (k.number ≤ number L) × Row_is n i k.row (back k.number L)
  pub kept_all : (p : ℕ) → oldest ≤ p → p ≤ number L → (k : Checkpoint) × Among k c.kept × (k.number ≡ p)

-- the look-up finds a kept checkpoint with the number
pub checkpoint_found : (cs : List Checkpoint) (k : Checkpoint) → Among k cs → (c : Checkpoint) × (checkpoint_at cs k.number ≡ Some c) × Among c cs × (c.number ≡ k.number)
checkpoint_found [] k h = elim h [ ]
checkpoint_found (c ∷ cs) k h =
    elim (eqb_ways c.number k.number (Some c) (checkpoint_at cs k.number)) [
      | inl w ↦ (c, w.1, inl refl, w.0)
      | inr w ↦ elim h [
        | inl e ↦ absurd (w.0 (sym (ap (λ (z : Checkpoint). z.number) e)))
        | inr a ↦ (let r = checkpoint_found cs k a in (r.0, w.1 ∙ r.1, inr r.2, r.3))
      ]
    ]

-- a checkpoint that the search may choose
abbrev pub Chosen : ℕ → ℕ → ℕ → Checkpoint → Type 0
Chosen i s p c = (c.number < p) × (entry c.row i < s)

chosen_ways : {A : Type 0} (i s p : ℕ) (c : Checkpoint) (x y : A) → (Chosen i s p c × (cond (both (ltb c.number p) (ltb (entry c.row i) s)) x y ≡ x)) ⊎ ((Chosen i s p c → ⊥) × (cond (both (ltb c.number p) (ltb (entry c.row i) s)) x y ≡ y))
chosen_ways i s p c x y = go (ltb c.number p) (ltb (entry c.row i) s) refl refl
  where
    go : (a b : Bool) → ltb c.number p ≡ a → ltb (entry c.row i) s ≡ b → (Chosen i s p c × (cond (both a b) x y ≡ x)) ⊎ ((Chosen i s p c → ⊥) × (cond (both a b) x y ≡ y))
    go true true e f = inl ((ltb-true c.number p e, ltb-true (entry c.row i) s f), refl)
    go true false e f = inr ((λ h. let u = h.1 in let v = ltb-false (entry c.row i) s f in omega arith), refl)
    go false b e f = inr ((λ h. let u = h.0 in let v = ltb-false c.number p e in omega arith), refl)

pub latest_none : (i s p : ℕ) (cs : List Checkpoint) (found : Option ℕ) → ((k : Checkpoint) → Among k cs → Chosen i s p k → ⊥) → latest i s p cs found ≡ found
latest_none i s p [] found h = refl
latest_none i s p (c ∷ cs) found h =
    elim (chosen_ways i s p c (Some c.number) found) [
      | inl w ↦ absurd (h c (inl refl) w.0)
      | inr w ↦ ap (latest i s p cs) w.1 ∙ latest_none i s p cs found (λ k a. h k (inr a))
    ]

-- the search ends at the latest checkpoint that it may choose
pub latest_is : (i s p : ℕ) (cs : List Checkpoint) (found : Option ℕ) → Rising cs → (k : Checkpoint) → Among k cs → Chosen i s p k →
    ((c : Checkpoint) → Among c cs → k.number < c.number → Chosen i s p c → ⊥) → latest i s p cs found ≡ Some k.number
latest_is i s p [] found r k h ch last = elim h [ ]
latest_is i s p (c ∷ cs) found r k h ch last =
    elim h [
      | inl e ↦ (
          let n : k.number ≡ c.number = ap (λ (z : Checkpoint). z.number) e in
          elim (chosen_ways i s p c (Some c.number) found) [
            | inl w ↦ ap (latest i s p cs) w.1
                ∙ latest_none i s p cs (Some c.number) (λ d a. last d (inr a) (let g = r.0 d a in omega arith))
                ∙ ap (λ (z : ℕ). Some z) (sym n)
            | inr w ↦ absurd (w.0 (subst (Chosen i s p) e ch))
          ])
      | inr a ↦ latest_is i s p cs (cond (both (ltb c.number p) (ltb (entry c.row i) s)) (Some c.number) found) r.1 k a ch (λ d b. last d (inr b))
    ]

-- the look-up finds nothing, or a kept checkpoint with the number
pub checkpoint_ways : (cs : List Checkpoint) (n : ℕ) → (checkpoint_at cs n ≡ None) ⊎ ((c : Checkpoint) × (checkpoint_at cs n ≡ Some c) × Among c cs × (c.number ≡ n))
checkpoint_ways [] n = inl refl
checkpoint_ways (c ∷ cs) n =
    elim (eqb_ways c.number n (Some c) (checkpoint_at cs n)) [
      | inl w ↦ inr (c, w.1, inl refl, w.0)
      | inr w ↦ elim (checkpoint_ways cs n) [
        | inl a ↦ inl (w.1 ∙ a)
        | inr a ↦ inr (a.0, w.1 ∙ a.1, inr a.2, a.3)
      ]
    ]
