-- A list of events falls into what goes back to a checkpoint leaves and what comes after it, and times tell the two apart.
use Rattle.std.proofs.Common.{◌≡◌, ℕ, ◌+◌, ◌<◌, ◌≤◌, Bool, true, false, cond, eqb, leb, ◌⊎◌, List, [], ◌∷◌, sym, refl, ap, ◌∙◌, subst, inl, inr, arith}
use Rattle.std.proofs.lemmas.Bool.{leb-true, leb-false, eqb-true, eqb-false}
use Rattle.law.specs.Events.{Event, saved, sent, got, ◌∈◌, Later, After, back, number, saves}

-- x is an event of the list, and R is what came before it
abbrev pub Part : Event → List Event → List Event → Type 0
Part x R [] = ⊥
Part x R (y ∷ L) = ((x ≡ y) × (R ≡ L)) ⊎ Part x R L

abbrev pub time : Event → ℕ
time (saved t ws) = t
time (sent t m) = t
time (got t m) = t

-- every event is later than those below it
abbrev pub Timed : List Event → Type 0
Timed [] = Unit {0}
Timed (x ∷ L) = ((e : Event) → e ∈ L → time e < time x) × Timed L

pub part_in : (L : List Event) (x : Event) (R : List Event) → Part x R L → x ∈ L
part_in [] x R p = elim p [ ]
part_in (y ∷ L) x R p = elim p [ inl h ↦ inl h.0 | inr q ↦ inr (part_in L x R q) ]

pub in_part : (L : List Event) (x : Event) → x ∈ L → (R : List Event) × Part x R L
in_part [] x h = elim h [ ]
in_part (y ∷ L) x h = elim h [ inl e ↦ (L, inl (e, refl)) | inr k ↦ (let r = in_part L x k in (r.0, inr r.1)) ]

pub after_in : (s : ℕ) (L : List Event) (e : Event) → After s L e → e ∈ L
after_in s [] e h = elim h [ ]
after_in s (x ∷ L) e h = elim h [ inl p ↦ inl p.0 | inr q ↦ inr (after_in s L e q) ]

pub after-number : (s : ℕ) (L : List Event) (e : Event) → After s L e → s ≤ number L
after-number s [] e h = elim h [ ]
after-number s (x ∷ L) e h =
    elim h [ inl p ↦ (let q = p.1 in omega arith) | inr q ↦ (let r = after-number s L e q in omega arith) ]

pub part-after : (s : ℕ) (L : List Event) (x : Event) (R : List Event) → Part x R L → s ≤ number R → After s L x
part-after s [] x R p h = elim p [ ]
part-after s (y ∷ L) x R p h =
    elim p [ inl q ↦ inl (q.0, subst (λ (z : List Event). s ≤ number z) q.1 h) | inr q ↦ inr (part-after s L x R q h) ]

pub after-part : (s : ℕ) (L : List Event) (x : Event) → After s L x → (R : List Event) × Part x R L × (s ≤ number R)
after-part s [] x h = elim h [ ]
after-part s (y ∷ L) x h =
    elim h [ inl q ↦ (L, inl (q.0, refl), q.1) | inr q ↦ (let r = after-part s L x q in (r.0, inr r.1, r.2)) ]

pub part-number : (L : List Event) (x : Event) (R : List Event) → Part x R L → saves x + number R ≤ number L
part-number [] x R p = elim p [ ]
part-number (y ∷ L) x R p =
    elim p [
      | inl q ↦ (let a : saves x ≡ saves y = ap saves q.0 in let b : number R ≡ number L = ap number q.1 in omega arith)
      | inr q ↦ (let r = part-number L x R q in omega arith)
    ]

pub cond_ways : {A : Type 0} (b : Bool) (x y : A) → ((b ≡ true) × (cond b x y ≡ x)) ⊎ ((b ≡ false) × (cond b x y ≡ y))
cond_ways true x y = inl (refl, refl)
cond_ways false x y = inr (refl, refl)

pub leb_ways : {A : Type 0} (a b : ℕ) (x y : A) → ((a ≤ b) × (cond (leb a b) x y ≡ x)) ⊎ ((b < a) × (cond (leb a b) x y ≡ y))
leb_ways a b x y =
    elim (cond_ways (leb a b) x y) [ inl p ↦ inl (leb-true a b p.0, p.1) | inr p ↦ inr (leb-false a b p.0, p.1) ]

pub eqb_ways : {A : Type 0} (a b : ℕ) (x y : A) → ((a ≡ b) × (cond (eqb a b) x y ≡ x)) ⊎ ((a ≡ b → ⊥) × (cond (eqb a b) x y ≡ y))
eqb_ways a b x y =
    elim (cond_ways (eqb a b) x y) [ inl p ↦ inl (eqb-true a b p.0, p.1) | inr p ↦ inr (eqb-false a b p.0, p.1) ]

pub back_ways : (s : ℕ) (x : Event) (L : List Event) → ((s ≤ number L) × (back s (x ∷ L) ≡ back s L)) ⊎ ((number L < s) × (back s (x ∷ L) ≡ x ∷ L))
back_ways s x L = leb_ways s (number L) (back s L) (x ∷ L)

-- an event of the list stands, or is struck
pub stands_or_after : (s : ℕ) (L : List Event) (e : Event) → e ∈ L → (e ∈ back s L) ⊎ After s L e
stands_or_after s [] e h = elim h [ ]
stands_or_after s (x ∷ L) e h = go h (back_ways s x L) (stands_or_after s L e)
  where
    M : List Event → Type 0
    M z = (e ∈ z) ⊎ After s (x ∷ L) e

    go : (e ≡ x) ⊎ (e ∈ L) → ((s ≤ number L) × (back s (x ∷ L) ≡ back s L)) ⊎ ((number L < s) × (back s (x ∷ L) ≡ x ∷ L)) → (e ∈ L → (e ∈ back s L) ⊎ After s L e) → M (back s (x ∷ L))
    go (inl p) (inl w) ih = inr (inl (p, w.0))
    go (inr p) (inl w) ih = subst M (sym w.1) (elim (ih p) [ inl q ↦ inl q | inr q ↦ inr (inr q) ])
    go (inl p) (inr w) ih = subst M (sym w.1) (inl (inl p))
    go (inr p) (inr w) ih = subst M (sym w.1) (inl (inr p))

pub in_back : (s : ℕ) (L : List Event) (e : Event) → e ∈ back s L → e ∈ L
in_back s [] e h = elim h [ ]
in_back s (x ∷ L) e h =
    elim (back_ways s x L) [
      | inl w ↦ inr (in_back s L e (subst (λ (z : List Event). e ∈ z) w.1 h))
      | inr w ↦ subst (λ (z : List Event). e ∈ z) w.1 h
    ]

pub back-part : (s : ℕ) (L : List Event) (x : Event) (R : List Event) → Part x R (back s L) → Part x R L
back-part s [] x R p = elim p [ ]
back-part s (y ∷ L) x R p =
    elim (back_ways s y L) [
      | inl w ↦ inr (back-part s L x R (subst (λ (z : List Event). Part x R z) w.1 p))
      | inr w ↦ subst (λ (z : List Event). Part x R z) w.1 p
    ]

-- what stands comes at or before the checkpoint
pub back-number : (s : ℕ) (L : List Event) (x : Event) (R : List Event) → Part x R (back s L) → number R < s
back-number s [] x R p = elim p [ ]
back-number s (y ∷ L) x R p =
    elim (back_ways s y L) [
      | inl w ↦ back-number s L x R (subst (λ (z : List Event). Part x R z) w.1 p)
      | inr w ↦ elim (subst (λ (z : List Event). Part x R z) w.1 p) [
        | inl q ↦ (let b : number R ≡ number L = ap number q.1 in omega arith)
        | inr q ↦ (let b = part-number L x R q in omega arith)
      ]
    ]

-- the parts of a timed list below one event are one
pub part_one : (L : List Event) (x : Event) (R S : List Event) → Timed L → Part x R L → Part x S L → R ≡ S
part_one [] x R S t p q = elim p [ ]
part_one (y ∷ L) x R S t (inl p) (inl q) = p.1 ∙ sym q.1
part_one (y ∷ L) x R S t (inl p) (inr q) =
    let a : time x < time y = t.0 x (part_in L x S q) in
    let b : time x ≡ time y = ap time p.0 in
    absurd (omega arith)
part_one (y ∷ L) x R S t (inr p) (inl q) =
    let a : time x < time y = t.0 x (part_in L x R p) in
    let b : time x ≡ time y = ap time q.0 in
    absurd (omega arith)
part_one (y ∷ L) x R S t (inr p) (inr q) = part_one L x R S t.1 p q

pub part_trans : (L : List Event) (x y : Event) (R S : List Event) → Part y S L → Part x R S → Part x R L
part_trans [] x y R S p q = elim p [ ]
part_trans (z ∷ L) x y R S p q =
    elim p [
      | inl h ↦ inr (subst (λ (w : List Event). Part x R w) h.1 q)
      | inr h ↦ inr (part_trans L x y R S h q)
    ]

pub later-part : (L : List Event) (a b : Event) → Later L a b → (S : List Event) × Part b S L × (a ∈ S)
later-part [] a b h = elim h [ ]
later-part (x ∷ L) a b h =
    elim h [ inl p ↦ (L, inl (p.0, refl), p.1) | inr q ↦ (let r = later-part L a b q in (r.0, inr r.1, r.2)) ]

pub part-later : (L : List Event) (a b : Event) (S : List Event) → Part b S L → a ∈ S → Later L a b
part-later [] a b S p h = elim p [ ]
part-later (x ∷ L) a b S p h =
    elim p [
      | inl q ↦ inl (q.0, subst (λ (w : List Event). a ∈ w) q.1 h)
      | inr q ↦ inr (part-later L a b S q h)
    ]

-- what comes later than a struck event is struck
pub later-after : (s : ℕ) (L : List Event) (a b : Event) → Timed L → Later L a b → After s L a → After s L b
later-after s L a b t l h =
    let p = later-part L a b l in
    let q = after-part s L a h in
    let r = in_part p.0 a p.2 in
    let e : q.0 ≡ r.0 = part_one L a q.0 r.0 t q.1 (part_trans L a b r.0 p.0 p.1 r.1) in
    let n : number q.0 ≡ number r.0 = ap number e in
    let m = part-number p.0 a r.0 r.1 in
    let k = q.2 in
    part-after s L b p.0 p.1 (omega arith)

pub stands_not_after : (s : ℕ) (L : List Event) (e : Event) → Timed L → e ∈ back s L → After s L e → ⊥
stands_not_after s L e t h a =
    let p = in_part (back s L) e h in
    let q = after-part s L e a in
    let m = back-number s L e p.0 p.1 in
    let n : number p.0 ≡ number q.0 = ap number (part_one L e p.0 q.0 t (back-part s L e p.0 p.1) q.1) in
    let k = q.2 in
    omega arith
