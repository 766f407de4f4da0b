-- The log goes on agreeing with the history at a resume and at a collect: a message leaves it only when its sending is undone, or its delivery can never be.
use Rattle.std.proofs.Common.{◌≡◌, ℕ, ◌<◌, ◌≤◌, Bool, false, not, ◌⊎◌, List, [], ◌∷◌, get_or, Some, None, filter, Option, sym, refl, ap, ◌∙◌, subst, inl, inr, arith}
use Rattle.std.proofs.lemmas.Bool.{leb-false, le-leb, lt-leb, not-true}
use Rattle.law.specs.declared.Message.{Message}
use Rattle.law.specs.declared.Logged.{Logged}
use Rattle.law.specs.declared.Restart.{Restart}
use Rattle.law.specs.Book.{stays}
use Rattle.law.specs.Restarts.{place, undone, unreceived, receipt_left, log_back}
use Rattle.law.specs.Trials.{log_from, received_from}
use Rattle.law.specs.Law.{Among}
use Rattle.law.specs.Events.{Event, Lists, sent, got, ◌∈◌, back, number}
use Rattle.law.proofs.Lists.{Part, in_part, part_in, part_one, part-number, back_ways, back-part, in_back, back-number, leb_ways}
use Rattle.law.proofs.Sound.{Sound}
use Rattle.law.proofs.Going.{places_of, places_ways}
use Rattle.law.proofs.Among.{ids_kept, ids_map, among_map, among_unmap, among_kept, kept_among}
use Rattle.law.proofs.Logs.{Logs}

pub part-back : (s : ℕ) (L : List Event) (x : Event) (R : List Event) → Part x R L → number R < s → Part x R (back s L)
part-back s [] x R p h = p
part-back s (y ∷ L) x R p h =
    elim (back_ways s y L) [
      | inl w ↦ subst (λ (z : List Event). Part x R z) (sym w.1) (elim p [
        | inl q ↦ (let a : number R ≡ number L = ap number q.1 in let b = w.0 in absurd (omega arith))
        | inr q ↦ part-back s L x R q h
      ])
      | inr w ↦ subst (λ (z : List Event). Part x R z) (sym w.1) p
    ]

-- a told place and the place above the number say the same of every number that there is
pub place_same : (n : ℕ) (r : Restart) (H : Lists) (j m : ℕ) → j < n → number (H j) < stays → m ≤ number (H j) →
    (place r j ≤ m → places_of n r H j ≤ m) × (places_of n r H j ≤ m → place r j ≤ m)
place_same n r H j m hj small hm =
    elim (places_ways n r H j) [
      | inl w ↦ (let a = w.2 in ((λ h. omega arith), (λ h. omega arith)))
      | inr w ↦ (let a = w.0 hj in let b = w.1 in ((λ h. absurd (omega arith)), (λ h. absurd (omega arith))))
    ]

receipt_ways : (p : ℕ) (o : Option ℕ) → ((receipt_left p o ≡ None) × ((o ≡ None) ⊎ ((s : ℕ) × (o ≡ Some s) × (p ≤ s)))) ⊎ ((s : ℕ) × (receipt_left p o ≡ Some s) × (o ≡ Some s) × (s < p))
receipt_ways p None = inl (refl, inl refl)
receipt_ways p (Some s) =
    elim (leb_ways p s None (Some s)) [
      | inl w ↦ inl (w.1, inr (s, refl, w.0))
      | inr w ↦ inr (s, w.1, refl, w.0)
    ]

module _ (n : ℕ) (H G : Lists) (oldest : ℕ → ℕ) (told : ℕ → Message) (log : List Logged) (next : ℕ) (lg : Logs n H oldest told log next) (sd : Sound H oldest)
    (small : (i : ℕ) → number (H i) < stays) (r : Restart) (is : (j : ℕ) → G j ≡ back (places_of n r H j) (H j)) (held : (j : ℕ) → j < n → oldest j ≤ places_of n r H j) where
  abbrev P : ℕ → ℕ
  P = places_of n r H

  was : (j : ℕ) (e : Event) → e ∈ G j → e ∈ H j
  was j e h = in_back (P j) (H j) e (subst (λ (z : List Event). e ∈ z) (is j) h)

  still : (j : ℕ) (e : Event) (R : List Event) → Part e R (H j) → number R < P j → Part e R (G j)
  still j e R p h = subst (λ (z : List Event). Part e R z) (sym (is j)) (part-back (P j) (H j) e R p h)

  same : (z : Logged) → (unreceived r.places z).message ≡ z.message
  same z = refl

  -- a message that the filter lets pass was sent before the place
  sent_stands : (z : Logged) → Among z log → undone r.places z ≡ false → (t : ℕ) × (sent t z.message ∈ G z.message.from)
  sent_stands z a nu =
      let s = lg.stands z a in
      let q = in_part (H z.message.from) (sent s.0 z.message) s.1 in
      let m = (sd.messages.sends z.message.from s.0 z.message q.0 q.1).1 in
      let pr = lg.proper z.message.from s.0 z.message s.1 in
      let pn = part-number (H z.message.from) (sent s.0 z.message) q.0 q.1 in
      let c = (place_same n r H z.message.from z.message.number pr.0 (small z.message.from) (omega arith)).1 in
      let f = leb-false (place r z.message.from) z.message.number nu in
      elim (le_or_lt (P z.message.from) z.message.number) [
        | inl h ↦ (let k = c h in absurd (omega arith))
        | inr h ↦ (s.0, part_in (G z.message.from) (sent s.0 z.message) q.0 (still z.message.from (sent s.0 z.message) q.0 q.1 (omega arith)))
      ]
    where
      le_or_lt : (a b : ℕ) → (a ≤ b) ⊎ (b < a)
      le_or_lt a b = elim (leb_ways {A = ℕ} a b 0 0) [ inl w ↦ inl w.0 | inr w ↦ inr w.0 ]

  sent_kept : (i t : ℕ) (m : Message) → sent t m ∈ G i → (o : Option ℕ) → undone r.places (record { message = m; receipt = o }) ≡ false
  sent_kept i t m h o =
      let q = in_part (back (P i) (H i)) (sent t m) (subst (λ (z : List Event). sent t m ∈ z) (is i) h) in
      let b = back-number (P i) (H i) (sent t m) q.0 q.1 in
      let w = back-part (P i) (H i) (sent t m) q.0 q.1 in
      let s = sd.messages.sends i t m q.0 w in
      let pr = lg.proper i t m (was i (sent t m) h) in
      let pn = part-number (H i) (sent t m) q.0 w in
      let sn = s.1 in
      let e : place r m.from ≡ place r i = ap (place r) s.0 in
      elim (leb_ways {A = ℕ} (place r m.from) m.number 0 0) [
        | inl v ↦ (let k = (place_same n r H i m.number pr.0 (small i) (omega arith)).0 (let y = v.0 in omega arith) in absurd (omega arith))
        | inr v ↦ lt-leb (place r m.from) m.number v.0
      ]

  pub logs_cut : Logs n G oldest told (log_back r.places log) next
  logs_cut =
      record {
        stands = λ x a. (
            let q = among_unmap (unreceived r.places) kept x a in
            let k = kept_among test log q.0 q.1 in
            let s = sent_stands q.0 k.0 (not-true (undone r.places q.0) k.1) in
            (s.0, subst (λ (z : Logged). sent s.0 z.message ∈ G z.message.from) (sym q.2) s.1));
        waiting = λ x a e u k h. (
            let q = among_unmap (unreceived r.places) kept x a in
            let y = q.0 in
            let ya = (kept_among test log y q.1).0 in
            let g : got u y.message ∈ G k = subst (λ (z : Logged). got u z.message ∈ G k) q.2 h in
            let e2 : receipt_left (place r y.message.to) y.receipt ≡ None = sym (ap (λ (z : Logged). z.receipt) q.2) ∙ e in
            elim (receipt_ways (place r y.message.to) y.receipt) [
              | inl w ↦ elim w.1 [
                | inl o ↦ lg.waiting y ya o u k (was k (got u y.message) g)
                | inr o ↦ cleared y ya o.0 o.1 o.2 u k g
              ]
              | inr w ↦ (let f = w.1 in let z : ◌≡◌ {A = ℕ} 0 1 = cc in absurd (omega arith))
            ]);
        received = λ x s a e. (
            let q = among_unmap (unreceived r.places) kept x a in
            let y = q.0 in
            let ya = (kept_among test log y q.1).0 in
            let e2 : receipt_left (place r y.message.to) y.receipt ≡ Some s = sym (ap (λ (z : Logged). z.receipt) q.2) ∙ e in
            elim (receipt_ways (place r y.message.to) y.receipt) [
              | inl w ↦ (let f = w.0 in let z : ◌≡◌ {A = ℕ} 0 1 = cc in absurd (omega arith))
              | inr w ↦ (
                  let f = w.1 in
                  let g : w.0 ≡ s = cc in
                  let p = lg.received y w.0 ya w.2 in
                  let n2 = p.3 in
                  let lt = w.3 in
                  let st = lg.stands y ya in
                  let pr = lg.proper y.message.from st.0 y.message st.1 in
                  let pn = part-number (H y.message.to) (got p.0 y.message) p.1 p.2 in
                  let c = (place_same n r H y.message.to (number p.1) pr.1 (small y.message.to) (omega arith)).1 in (
                    p.0,
                    p.1,
                    subst (λ (z : Logged). Part (got p.0 z.message) p.1 (G z.message.to)) (sym q.2)
                        (still y.message.to (got p.0 y.message) p.1 p.2 (elim (leb_ways {A = ℕ} (P y.message.to) (number p.1) 0 0) [
                          | inl v ↦ (let k = c v.0 in absurd (omega arith))
                          | inr v ↦ v.0
                        ])),
                    n2 ∙ g,
                  ))
            ]);
        kept = λ i t m h. elim (lg.kept i t m (was i (sent t m) h)) [
          | inl q ↦ (
              let y : Logged = record { message = m; receipt = q.0 } in
              let a = among_map (unreceived r.places) kept y (among_kept test log y q.1 (ap not (sent_kept i t m h q.0))) in
              inl ((unreceived r.places y).receipt, a))
          | inr q ↦ (
              let pr = lg.proper i t m (was i (sent t m) h) in
              let ho = held m.to pr.1 in
              let lt = q.3 in
              inr (q.0, q.1, still m.to (got q.0 m) q.1 q.2 (omega arith), lt))
        ];
        ids = ids_map (unreceived r.places) kept same (ids_kept test log lg.ids);
        id_below = λ i t m h. lg.id_below i t m (was i (sent t m) h);
        id_one = λ i k t u m l h g. lg.id_one i k t u m l (was i (sent t m) h) (was k (sent u l) g);
        told_right = λ x a. (
            let q = among_unmap (unreceived r.places) kept x a in
            let ya = (kept_among test log q.0 q.1).0 in
            ap (λ (z : Logged). told z.message.id) q.2 ∙ lg.told_right q.0 ya ∙ sym (ap (λ (z : Logged). z.message) q.2));
        proper = λ i t m h. lg.proper i t m (was i (sent t m) h);
        once = λ j k t u m h g. lg.once j k t u m (was j (got t m) h) (was k (got u m) g);
      }
    where
      test : Logged → Bool
      test = λ m. not (undone r.places m)

      kept : List Logged
      kept = filter test log

      -- a receipt that is cleared was given after the place, so its delivery is struck
      cleared : (y : Logged) → Among y log → (s : ℕ) → y.receipt ≡ Some s → place r y.message.to ≤ s → (u k : ℕ) → got u y.message ∈ G k → ⊥
      cleared y ya s e le u k g =
          let p = lg.received y s ya e in
          let gh = was k (got u y.message) g in
          let to = (sd.messages.gets k u y.message gh).0 in
          let same-time : p.0 ≡ u = lg.once y.message.to k p.0 u y.message (part_in (H y.message.to) (got p.0 y.message) p.1 p.2) gh in
          let gk : got u y.message ∈ back (P y.message.to) (H y.message.to) =
          subst (λ (z : ℕ). got u y.message ∈ back (P z) (H z)) (sym to) (subst (λ (z : List Event). got u y.message ∈ z) (is k) g) in
          let q = in_part (back (P y.message.to) (H y.message.to)) (got u y.message) gk in
          let b = back-number (P y.message.to) (H y.message.to) (got u y.message) q.0 q.1 in
          let pu : Part (got u y.message) p.1 (H y.message.to) = subst (λ (z : ℕ). Part (got z y.message) p.1 (H y.message.to)) same-time p.2 in
          let eq : number p.1 ≡ number q.0 = ap number (part_one (H y.message.to) (got u y.message) p.1 q.0 (sd.messages.timed y.message.to) pu (back-part (P y.message.to) (H y.message.to) (got u y.message) q.0 q.1)) in
          let st = lg.stands y ya in
          let pr = lg.proper y.message.from st.0 y.message st.1 in
          let pn = part-number (H y.message.to) (got u y.message) p.1 pu in
          let n2 = p.3 in
          let c = (place_same n r H y.message.to (number p.1) pr.1 (small y.message.to) (omega arith)).0 (omega arith) in
          omega arith

-- a collect takes only delivered messages out of the log, whose deliveries lie below the bound
pub logs_collect : (n : ℕ) (H : Lists) (oldest bound : ℕ → ℕ) (told : ℕ → Message) (log : List Logged) (next : ℕ) (bs : List ℕ) → Logs n H oldest told log next →
    ((j : ℕ) → j < n → get_or bs j 0 ≡ bound j) → ((j : ℕ) → oldest j ≤ bound j) → Logs n H bound told (log_from bs log) next
logs_collect n H oldest bound told log next bs lg here up =
    record {
      stands = λ x a. lg.stands x (kept_among test log x a).0;
      waiting = λ x a. lg.waiting x (kept_among test log x a).0;
      received = λ x s a. lg.received x s (kept_among test log x a).0;
      kept = λ i t m h. elim (lg.kept i t m h) [
        | inl q ↦ stay i t m h q.0 q.1
        | inr q ↦ (let u = up m.to in let lt = q.3 in inr (q.0, q.1, q.2, omega arith))
      ];
      ids = ids_kept test log lg.ids;
      id_below = lg.id_below;
      id_one = lg.id_one;
      told_right = λ x a. lg.told_right x (kept_among test log x a).0;
      proper = lg.proper;
      once = lg.once;
    }
  where
    test : Logged → Bool
    test = λ m. received_from (get_or bs m.message.to 0) m.receipt

    stay : (i t : ℕ) (m : Message) → sent t m ∈ H i → (o : Option ℕ) → Among (record { message = m; receipt = o }) log →
        ((o : Option ℕ) × Among (record { message = m; receipt = o }) (log_from bs log)) ⊎ ((u : ℕ) × (R : List Event) × Part (got u m) R (H m.to) × (number R < bound m.to))
    stay i t m h None a = inl (None, among_kept test log _ a refl)
    stay i t m h (Some s) a =
        elim (leb_ways {A = ℕ} (get_or bs m.to 0) s 0 0) [
          | inl w ↦ inl (Some s, among_kept test log _ a (le-leb (get_or bs m.to 0) s w.0))
          | inr w ↦ (
              let p = lg.received (record { message = m; receipt = Some s }) s a refl in
              let n2 = p.3 in
              let lt = w.0 in
              let b = here m.to (lg.proper i t m h).1 in
              inr (p.0, p.1, p.2, omega arith))
        ]
