-- Each slip breaks a part of the law at an event, a log entry or a row that can be pointed at.
use Rattle.std.proofs.Common.{◌≡◌, ℕ, List, [], ◌∷◌, Some, None, Option, sym, refl, ap, subst, inl, inr, arith}
use Rattle.std.proofs.lemmas.Bool.{true≢false, eqb-true}
use Rattle.law.specs.declared.Message.{Message}
use Rattle.law.specs.declared.Logged.{Logged}
use Rattle.law.specs.Events.{Event, Lists, saved, sent, got, ◌∈◌, After, number}
use Rattle.law.specs.Chains.{itself, later, delivered, Chain}
use Rattle.law.specs.Slips.{Slips, told, first_message, nothing_lost, never_got}

-- an event of one kind is none of another
pub unheard : (u : ℕ) (m : Message) (t s : ℕ) (ws vs : List ℕ) → got u m ∈ saved t ws ∷ saved s vs ∷ [] → ⊥
unheard u m t s ws vs h =
    elim h [
      | inl e ↦ (let z : ◌≡◌ {A = ℕ} 0 1 = cc in omega arith)
      | inr k ↦ elim k [ inl e ↦ (let z : ◌≡◌ {A = ℕ} 0 1 = cc in omega arith) | inr l ↦ elim l [ ] ]
    ]

-- a chain that ends where nothing was delivered has begun there
pub begins_there : (H : Lists) (k : ℕ) → ((u : ℕ) (m : Message) → got u m ∈ H k → ⊥) → (i : ℕ) (x : Event) (j : ℕ) (e : Event) → Chain H i x j e → j ≡ k → i ≡ k
begins_there H k quiet i x j e (itself h) q = q
begins_there H k quiet i x j e (later {a = a} c l) q = begins_there H k quiet i x j a c q
begins_there H k quiet i x j e (delivered {m = m} j' u c g) q = absurd (quiet u m (subst (λ (z : ℕ). got u m ∈ H z) q g))

pub slips : Slips
slips =
    record {
      again_above = λ law. elim (law.again 0 1 (first_message 7) (inl refl) (λ u g. unheard u (first_message 7) 2 0 (9 ∷ []) (0 ∷ []) g)).0 [
        | inl e ↦ (let f : ◌≡◌ {A = Option ℕ} None (Some 2) = ap (λ (x : Logged). x.receipt) e in let z : ◌≡◌ {A = ℕ} 0 1 = cc in omega arith)
        | inr k ↦ elim k [ ]
      ];
      word_lost = λ law. elim (law.again 0 1 (first_message 7) (inl refl) (λ u g. unheard u (first_message 7) 2 0 (9 ∷ []) (0 ∷ []) g)).0 [
        | inl e ↦ (let f : ◌≡◌ {A = ℕ} 7 0 = ap (λ (x : Logged). x.message.word) e in omega arith)
        | inr k ↦ elim k [ ]
      ];
      late_copy = λ b law. (
          let s = law.known 1 4 (first_message 7) (inl refl) in
          elim s.1 [ inl e ↦ (let z : ◌≡◌ {A = ℕ} 0 1 = cc in omega arith) | inr k ↦ elim k [ ] ]);
      delivered_twice = λ b law. (
          let s = (law.once 1 1 4 3 (first_message 7) (first_message 7) (inl refl) (inr (inl refl)) refl).1 in
          omega arith);
      all_to_one = λ b r. (
          let q = (r.undone 1 (saved 1 (9 ∷ [])) (inl refl)).0 (λ m. elim m [ inl e ↦ (let z : ◌≡◌ {A = ℕ} 1 0 = ap (λ (x : Event). Rattle.law.proofs.Lists.time x) e in omega arith) | inr k ↦ elim k [ ] ]) in
          let f = eqb-true q.cluster 0 q.lost.0 in
          let a = subst (λ (i : ℕ). After (number ((told nothing_lost).at_fault i)) ((told nothing_lost).at_fault i) q.event) f q.lost.1 in
          elim a [ inl p ↦ (let le = p.1 in omega arith) | inr k ↦ elim k [ ] ]);
      raised_row = λ b r.
          (let q = (r.undone 1 (saved 2 (9 ∷ [])) (inl refl)).0 (λ m. elim m [ inl e ↦ (let z : ◌≡◌ {A = ℕ} 2 0 = ap (λ (x : Event). Rattle.law.proofs.Lists.time x) e in omega arith) | inr k ↦ elim k [ ] ]) in
          let f = eqb-true q.cluster 0 q.lost.0 in
          let g = begins_there (told never_got).at_fault 1 (λ u m. unheard u m 2 0 (9 ∷ []) (0 ∷ [])) q.cluster q.event 1 (saved 2 (9 ∷ [])) q.chain refl in
          omega arith);
      first_alert_only = λ b r. (r.undone 2 (got 6 second) (inl refl)).1
          (record {
            cluster = 0;
            event = sent 1 (first_message 7);
            lost = (refl, inl (refl, omega arith));
            chain = delivered 2 6 (later (delivered 1 3 (itself (inl refl)) (inr (inl refl))) (inl (refl, inl refl))) (inl refl);
          })
          (inl refl);
      store_not_called = λ law. (let e = law.table 0 1 in let z : ◌≡◌ {A = ℕ} 0 1 = cc in omega arith);
      collect_too_far = λ law. (let e = law.table 0 2 in let z : ◌≡◌ {A = ℕ} 0 1 = cc in omega arith);
      never_forces = λ means. true≢false (sym (means 0 1 0 (omega arith)));
    }
  where
    second : Message
    second = record { id = 2; from = 1; to = 2; word = 8; number = 2 }
