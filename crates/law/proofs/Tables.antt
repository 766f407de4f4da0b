-- The table of the store is the standing checkpoints from the oldest kept on: an event adds a row only when it is a checkpoint.
use Rattle.std.proofs.Common.{◌≡◌, ℕ, suc, ◌+◌, ◌<◌, ◌≤◌, Bool, true, false, cond, ltb, leb, ◌⊎◌, List, [], ◌∷◌, Some, None, sym, refl, ap, ◌∙◌, subst, inl, inr, arith}
use Rattle.std.proofs.lemmas.Bool.{ltb-true, ltb-false, leb-true, leb-false, cases_eq}
use Rattle.store.specs.Table.{TableRow, lookup, insert, both}
use Rattle.law.specs.Law.{standing}
use Rattle.law.specs.Events.{Event, Lists, saved, back, number, saves, given, words_of}
use Rattle.law.proofs.Lists.{back_ways, leb_ways}
use Rattle.law.proofs.Rows.{insert_same, insert_other}
use Rattle.law.proofs.Appends.{Grows}

abbrev pub Standing : ℕ → Lists → (ℕ → ℕ) → ℕ → ℕ → Type 0
Standing n H o i k = (i < n) × (o i ≤ k) × (k ≤ number (H i))

pub standing_ways : (n : ℕ) (H : Lists) (o : ℕ → ℕ) (i k : ℕ) →
    (Standing n H o i k × (standing n H o i k ≡ Some (given k (H i)))) ⊎ ((Standing n H o i k → ⊥) × (standing n H o i k ≡ None))
standing_ways n H o i k = go (ltb i n) (leb (o i) k) (leb k (number (H i))) refl refl refl
  where
    go : (a b c : Bool) → ltb i n ≡ a → leb (o i) k ≡ b → leb k (number (H i)) ≡ c →
        (Standing n H o i k × (cond (both a (both b c)) (Some (given k (H i))) None ≡ Some (given k (H i)))) ⊎ ((Standing n H o i k → ⊥) × (cond (both a (both b c)) (Some (given k (H i))) None ≡ None))
    go true true true e f g = inl ((ltb-true i n e, leb-true (o i) k f, leb-true k (number (H i)) g), refl)
    go true true false e f g = inr ((λ s. let x = leb-false k (number (H i)) g in let y = s.2 in omega arith), refl)
    go true false c e f g = inr ((λ s. let x = leb-false (o i) k f in let y = s.1 in omega arith), refl)
    go false b c e f g = inr ((λ s. let x = ltb-false i n e in let y = s.0 in omega arith), refl)

pub standing_same : (n : ℕ) (H G : Lists) (o p : ℕ → ℕ) (i k : ℕ) → (Standing n H o i k → Standing n G p i k) → (Standing n G p i k → Standing n H o i k) →
    (Standing n H o i k → given k (G i) ≡ given k (H i)) → standing n H o i k ≡ standing n G p i k
standing_same n H G o p i k to from eq =
    elim (standing_ways n H o i k) [
      | inl w ↦ elim (standing_ways n G p i k) [
        | inl v ↦ w.1 ∙ ap (λ (z : List ℕ). Some z) (sym (eq w.0)) ∙ sym v.1
        | inr v ↦ absurd (v.0 (to w.0))
      ]
      | inr w ↦ elim (standing_ways n G p i k) [
        | inl v ↦ absurd (w.0 (from v.0))
        | inr v ↦ w.1 ∙ sym v.1
      ]
    ]

pub given_more : (k : ℕ) (x : Event) (L : List Event) → k ≤ number L → given k (x ∷ L) ≡ given k L
given_more k x L h = elim (leb_ways k (number L) (given k L) (words_of x)) [ inl w ↦ w.1 | inr w ↦ (let a = w.0 in absurd (omega arith)) ]

pub given_top : (k : ℕ) (x : Event) (L : List Event) → number L < k → given k (x ∷ L) ≡ words_of x
given_top k x L h = elim (leb_ways k (number L) (given k L) (words_of x)) [ inl w ↦ (let a = w.0 in absurd (omega arith)) | inr w ↦ w.1 ]

pub given_back : (k p : ℕ) (L : List Event) → k ≤ p → given k (back p L) ≡ given k L
given_back k p [] h = refl
given_back k p (x ∷ L) h =
    elim (back_ways p x L) [
      | inl w ↦ (let a = w.0 in ap (given k) w.1 ∙ given_back k p L h ∙ sym (given_more k x L (omega arith)))
      | inr w ↦ ap (given k) w.1
    ]

module _ (n : ℕ) (H G : Lists) (o : ℕ → ℕ) (c : ℕ) (x : Event) (gr : Grows H G c x) where
  number_here : number (G c) ≡ saves x + number (H c)
  number_here = ap number gr.here

  -- an event that is no checkpoint leaves the table as it was
  pub standing_quiet : saves x ≡ 0 → (i k : ℕ) → standing n H o i k ≡ standing n G o i k
  standing_quiet q i k =
      elim (cases_eq i c) [
        | inl e ↦ (
            let a : number (G i) ≡ number (H i) = (let b = number_here in let d : number (G i) ≡ number (G c) = ap (λ (z : ℕ). number (G z)) e in let f : number (H i) ≡ number (H c) = ap (λ (z : ℕ). number (H z)) e in omega arith) in
            standing_same n H G o o i k (λ s. (s.0, s.1, (let t = s.2 in omega arith))) (λ s. (s.0, s.1, (let t = s.2 in omega arith)))
            (λ s. ap (given k) (ap G e ∙ gr.here) ∙ given_more k x (H c) (let t = s.2 in let f : number (H i) ≡ number (H c) = ap (λ (z : ℕ). number (H z)) e in omega arith) ∙ ap (λ (z : ℕ). given k (H z)) (sym e)))
        | inr e ↦ (
            let a : number (G i) ≡ number (H i) = ap number (gr.there i e) in
            standing_same n H G o o i k (λ s. (s.0, s.1, (let t = s.2 in omega arith))) (λ s. (s.0, s.1, (let t = s.2 in omega arith)))
            (λ s. ap (given k) (gr.there i e)))
      ]

  -- a checkpoint adds its row
  pub standing-saved : (t : ℕ) (ws : List ℕ) → x ≡ saved t ws → c < n → o c ≤ number (H c) → (table : List TableRow) → ((i k : ℕ) → lookup table i k ≡ standing n H o i k) →
      (i k : ℕ) → lookup (insert (record { cluster = c; number = suc (number (H c)); words = ws }) table) i k ≡ standing n G o i k
  standing-saved t ws is hc ho table right i k =
      elim (cases_eq i c) [
        | inl e ↦ elim (cases_eq k (suc (number (H c)))) [
          | inl f ↦ here e f
          | inr f ↦ insert_other table c (suc (number (H c))) ws i k (λ _ q. f (sym q)) ∙ right i k ∙ same_i e f
        ]
        | inr e ↦ insert_other table c (suc (number (H c))) ws i k (λ q _. e (sym q)) ∙ right i k
            ∙ standing_same n H G o o i k
            (λ s. (s.0, s.1, subst (λ (z : List Event). k ≤ number z) (sym (gr.there i e)) s.2))
            (λ s. (s.0, s.1, subst (λ (z : List Event). k ≤ number z) (gr.there i e) s.2))
            (λ s. ap (given k) (gr.there i e))
      ]
    where
      one : saves x ≡ 1
      one = ap saves is

      here : i ≡ c → k ≡ suc (number (H c)) → lookup (insert (record { cluster = c; number = suc (number (H c)); words = ws }) table) i k ≡ standing n G o i k
      here e f =
          let nh = number_here in
          let s1 = one in
          let gi : number (G i) ≡ number (G c) = ap (λ (z : ℕ). number (G z)) e in
          let hi : number (H i) ≡ number (H c) = ap (λ (z : ℕ). number (H z)) e in
          let oi : o i ≡ o c = ap o e in
          elim (standing_ways n G o i k) [
            | inl w ↦ (
                elim (standing_ways n H o c (suc (number (H c)))) [
                  | inl v ↦ (let y = v.0.2 in absurd (omega arith))
                  | inr v ↦ ap (λ (z : ℕ). lookup (insert (record { cluster = c; number = suc (number (H c)); words = ws }) table) z k) e
                      ∙ ap (λ (z : ℕ). lookup (insert (record { cluster = c; number = suc (number (H c)); words = ws }) table) c z) f
                      ∙ insert_same table c (suc (number (H c))) ws (right c (suc (number (H c))) ∙ v.1)
                      ∙ ap (λ (z : List ℕ). Some z) (sym (ap (given k) (ap G e ∙ gr.here) ∙ given_top k x (H c) (omega arith) ∙ ap words_of is))
                      ∙ sym w.1
                ])
            | inr w ↦ absurd (w.0 (subst (λ (z : ℕ). z < n) (sym e) hc, omega arith, omega arith))
          ]

      same_i : i ≡ c → (k ≡ suc (number (H c)) → ⊥) → standing n H o i k ≡ standing n G o i k
      same_i e f =
          let nh = number_here in
          let s1 = one in
          let gi : number (G i) ≡ number (G c) = ap (λ (z : ℕ). number (G z)) e in
          let hi : number (H i) ≡ number (H c) = ap (λ (z : ℕ). number (H z)) e in
          standing_same n H G o o i k
          (λ s. (s.0, s.1, (let y = s.2 in omega arith)))
          (λ s. (s.0, s.1, (let y = s.2 in omega arith)))
          (λ s. ap (given k) (ap G e ∙ gr.here) ∙ given_more k x (H c) (let y = s.2 in omega arith) ∙ ap (λ (z : ℕ). given k (H z)) (sym e))
