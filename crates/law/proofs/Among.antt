-- Elements of lists that were appended, mapped or filtered, and the log read by id.
use Rattle.std.proofs.Common.{◌≡◌, ℕ, ◌<◌, Bool, true, ◌⊎◌, List, [], ◌∷◌, ◌++◌, map, Some, None, filter, sym, refl, ap, ◌∙◌, subst, inl, inr, arith}
use Rattle.std.proofs.lemmas.Bool.{true≢false}
use Rattle.law.specs.declared.Logged.{Logged}
use Rattle.law.specs.Book.{logged}
use Rattle.law.specs.Law.{Among, times_in}
use Rattle.law.proofs.Lists.{cond_ways, eqb_ways}

pub among_left : {A : Type 0} (xs ys : List A) (a : A) → Among a xs → Among a (xs ++ ys)
among_left [] ys a h = elim h [ ]
among_left (x ∷ xs) ys a h = elim h [ inl e ↦ inl e | inr k ↦ inr (among_left xs ys a k) ]

pub among_right : {A : Type 0} (xs ys : List A) (a : A) → Among a ys → Among a (xs ++ ys)
among_right [] ys a h = h
among_right (x ∷ xs) ys a h = inr (among_right xs ys a h)

pub among_append : {A : Type 0} (xs ys : List A) (a : A) → Among a (xs ++ ys) → Among a xs ⊎ Among a ys
among_append [] ys a h = inr h
among_append (x ∷ xs) ys a h =
    elim h [ inl e ↦ inl (inl e) | inr k ↦ elim (among_append xs ys a k) [ inl m ↦ inl (inr m) | inr m ↦ inr m ] ]

pub among_map : {A B : Type 0} (f : A → B) (xs : List A) (a : A) → Among a xs → Among (f a) (map f xs)
among_map f [] a h = elim h [ ]
among_map f (x ∷ xs) a h = elim h [ inl e ↦ inl (ap f e) | inr k ↦ inr (among_map f xs a k) ]

pub among_unmap : {A B : Type 0} (f : A → B) (xs : List A) (b : B) → Among b (map f xs) → (a : A) × Among a xs × (b ≡ f a)
among_unmap f [] b h = elim h [ ]
among_unmap f (x ∷ xs) b h =
    elim h [ inl e ↦ (x, inl refl, e) | inr k ↦ (let r = among_unmap f xs b k in (r.0, inr r.1, r.2)) ]

pub among_kept : {A : Type 0} (p : A → Bool) (xs : List A) (a : A) → Among a xs → p a ≡ true → Among a (filter p xs)
among_kept p [] a h t = elim h [ ]
among_kept p (x ∷ xs) a h t =
    elim (cond_ways (p x) (x ∷ filter p xs) (filter p xs)) [
      | inl w ↦ subst (Among a) (sym w.1) (elim h [ inl e ↦ inl e | inr k ↦ inr (among_kept p xs a k t) ])
      | inr w ↦ subst (Among a) (sym w.1) (elim h [ inl e ↦ absurd (true≢false (sym t ∙ ap p e ∙ w.0)) | inr k ↦ among_kept p xs a k t ])
    ]

pub kept_among : {A : Type 0} (p : A → Bool) (xs : List A) (a : A) → Among a (filter p xs) → Among a xs × (p a ≡ true)
kept_among p [] a h = elim h [ ]
kept_among p (x ∷ xs) a h =
    elim (cond_ways (p x) (x ∷ filter p xs) (filter p xs)) [
      | inl w ↦ elim (subst (Among a) w.1 h) [
        | inl e ↦ (inl e, ap p e ∙ w.0)
        | inr k ↦ (let r = kept_among p xs a k in (inr r.0, r.1))
      ]
      | inr w ↦ (let r = kept_among p xs a (subst (Among a) w.1 h) in (inr r.0, r.1))
    ]

-- ids rise along the log
abbrev pub IdsRise : List Logged → Type 0
IdsRise [] = Unit {0}
IdsRise (x ∷ log) = ((y : Logged) → Among y log → x.message.id < y.message.id) × IdsRise log

pub ids_append : (log : List Logged) (y : Logged) → IdsRise log → ((x : Logged) → Among x log → x.message.id < y.message.id) → IdsRise (log ++ (y ∷ []))
ids_append [] y r h = ((λ z m. elim m [ ]), tt)
ids_append (x ∷ log) y r h = (
  (λ z m. elim (among_append log (y ∷ []) z m) [
    | inl a ↦ r.0 z a
    | inr a ↦ elim a [ inl e ↦ subst (λ (w : Logged). x.message.id < w.message.id) (sym e) (h x (inl refl)) | inr b ↦ elim b [ ] ]
  ]),
  ids_append log y r.1 (λ z m. h z (inr m)),
)

pub ids_kept : (p : Logged → Bool) (log : List Logged) → IdsRise log → IdsRise (filter p log)
ids_kept p [] r = tt
ids_kept p (x ∷ log) r =
    elim (cond_ways (p x) (x ∷ filter p log) (filter p log)) [
      | inl w ↦ subst IdsRise (sym w.1) ((λ z m. r.0 z (kept_among p log z m).0), ids_kept p log r.1)
      | inr w ↦ subst IdsRise (sym w.1) (ids_kept p log r.1)
    ]

pub ids_map : (f : Logged → Logged) (log : List Logged) → ((x : Logged) → (f x).message ≡ x.message) → IdsRise log → IdsRise (map f log)
ids_map f [] same r = tt
ids_map f (x ∷ log) same r = (
  (λ z m. let q = among_unmap f log z m in
      let a = r.0 q.0 q.1 in
      let b : z.message.id ≡ q.0.message.id = ap (λ (w : Logged). w.message.id) q.2 ∙ ap (λ (w : _). w.id) (same q.0) in
      let c : (f x).message.id ≡ x.message.id = ap (λ (w : _). w.id) (same x) in
      omega arith),
  ids_map f log same r.1,
)

pub times_none : (log : List Logged) (id : ℕ) → ((x : Logged) → Among x log → id < x.message.id) → times_in id log ≡ 0
times_none [] id h = refl
times_none (x ∷ log) id h =
    let a = h x (inl refl) in
    let b = times_none log id (λ y m. h y (inr m)) in
    elim (eqb_ways {A = ℕ} x.message.id id 1 0) [ inl w ↦ (let c = w.0 in absurd (omega arith)) | inr w ↦ (let c = w.1 in omega arith) ]

pub times_one : (log : List Logged) (x : Logged) → IdsRise log → Among x log → times_in x.message.id log ≡ 1
times_one [] x r h = elim h [ ]
times_one (y ∷ log) x r h =
    elim h [
      | inl e ↦ (
          let i : x.message.id ≡ y.message.id = ap (λ (w : Logged). w.message.id) e in
          let b = times_none log x.message.id (λ z m. let q = r.0 z m in omega arith) in
          elim (eqb_ways {A = ℕ} y.message.id x.message.id 1 0) [ inl w ↦ (let c = w.1 in omega arith) | inr w ↦ absurd (w.0 (sym i)) ])
      | inr m ↦ (
          let a = r.0 x m in
          let b = times_one log x r.1 m in
          elim (eqb_ways {A = ℕ} y.message.id x.message.id 1 0) [ inl w ↦ (let c = w.0 in absurd (omega arith)) | inr w ↦ (let c = w.1 in omega arith) ])
    ]

-- the look-up by id finds the message, and only that
pub logged_found : (log : List Logged) (x : Logged) → IdsRise log → Among x log → logged log x.message.id ≡ Some x
logged_found [] x r h = elim h [ ]
logged_found (y ∷ log) x r h =
    elim h [
      | inl e ↦ elim (eqb_ways y.message.id x.message.id (Some y) (logged log x.message.id)) [
        | inl w ↦ w.1 ∙ ap (λ (z : Logged). Some z) (sym e)
        | inr w ↦ absurd (w.0 (sym (ap (λ (z : Logged). z.message.id) e)))
      ]
      | inr m ↦ (
          let a = r.0 x m in
          elim (eqb_ways y.message.id x.message.id (Some y) (logged log x.message.id)) [
            | inl w ↦ (let c = w.0 in absurd (omega arith))
            | inr w ↦ w.1 ∙ logged_found log x r.1 m
          ])
    ]

pub logged_ways : (log : List Logged) (id : ℕ) → (logged log id ≡ None) ⊎ ((x : Logged) × (logged log id ≡ Some x) × Among x log × (x.message.id ≡ id))
logged_ways [] id = inl refl
logged_ways (y ∷ log) id =
    elim (eqb_ways y.message.id id (Some y) (logged log id)) [
      | inl w ↦ inr (y, w.1, inl refl, w.0)
      | inr w ↦ elim (logged_ways log id) [
        | inl a ↦ inl (w.1 ∙ a)
        | inr a ↦ inr (a.0, w.1 ∙ a.1, inr a.2, a.3)
      ]
    ]
