-- The log goes on agreeing with the history when a message is sent, a checkpoint is saved, or a message is delivered.
use Rattle.std.proofs.Common.{◌≡◌, ℕ, suc, ◌<◌, List, [], ◌∷◌, ◌++◌, map, Some, None, sym, ap, ◌∙◌, subst, inl, inr, arith}
use Rattle.law.specs.declared.Message.{Message}
use Rattle.law.specs.declared.Logged.{Logged}
use Rattle.law.specs.Messages.{receive}
use Rattle.law.specs.Law.{Among}
use Rattle.law.specs.Events.{Event, Lists, sent, got, ◌∈◌, number}
use Rattle.law.specs.History.{put}
use Rattle.law.proofs.Lists.{Part, time, eqb_ways}
use Rattle.law.proofs.Sound.{Sound}
use Rattle.law.proofs.Appends.{Grows, part_more, part_new, in_split, in_more, in_new}
use Rattle.law.proofs.Among.{ids_append, ids_map, among_append, among_left, among_right, among_map, among_unmap}
use Rattle.law.proofs.Logs.{Logs}

-- an event of a kind that the new one is not was there before
module _ (H G : Lists) (c : ℕ) (x : Event) (gr : Grows H G c x) where
  pub sent_was : (isnt : (t : ℕ) (m : Message) → x ≡ sent t m → ⊥) (i t : ℕ) (m : Message) → sent t m ∈ G i → sent t m ∈ H i
  sent_was isnt i t m h = elim (in_split H G c x gr i (sent t m) h) [ inl a ↦ absurd (isnt t m (sym a.1)) | inr a ↦ a ]

  pub got_was : (isnt : (t : ℕ) (m : Message) → x ≡ got t m → ⊥) (i t : ℕ) (m : Message) → got t m ∈ G i → got t m ∈ H i
  got_was isnt i t m h = elim (in_split H G c x gr i (got t m) h) [ inl a ↦ absurd (isnt t m (sym a.1)) | inr a ↦ a ]

  module _ (n : ℕ) (oldest : ℕ → ℕ) (told : ℕ → Message) (log : List Logged) (next : ℕ) (lg : Logs n H oldest told log next) where
    received_more : (y : Logged) (r : ℕ) → Among y log → y.receipt ≡ Some r → (u : ℕ) × (R : List Event) × Part (got u y.message) R (G y.message.to) × (number R ≡ r)
    received_more y r a e = let q = lg.received y r a e in (q.0, q.1, part_more H G c x gr y.message.to (got q.0 y.message) q.1 q.2, q.3)

    -- a checkpoint more
    pub logs_saved : ((t : ℕ) (m : Message) → x ≡ sent t m → ⊥) → ((t : ℕ) (m : Message) → x ≡ got t m → ⊥) → Logs n G oldest told log next
    logs_saved no_send no_get =
        record {
          stands = λ y a. (let q = lg.stands y a in (q.0, in_more H G c x gr y.message.from (sent q.0 y.message) q.1));
          waiting = λ y a e u k h. lg.waiting y a e u k (got_was no_get k u y.message h);
          received = received_more;
          kept = λ i t m h. elim (lg.kept i t m (sent_was no_send i t m h)) [
            | inl q ↦ inl q
            | inr q ↦ inr (q.0, q.1, part_more H G c x gr m.to (got q.0 m) q.1 q.2, q.3)
          ];
          ids = lg.ids;
          id_below = λ i t m h. lg.id_below i t m (sent_was no_send i t m h);
          id_one = λ i k t u m l h g. lg.id_one i k t u m l (sent_was no_send i t m h) (sent_was no_send k u l g);
          told_right = lg.told_right;
          proper = λ i t m h. lg.proper i t m (sent_was no_send i t m h);
          once = λ j k t u m h g. lg.once j k t u m (got_was no_get j t m h) (got_was no_get k u m g);
        }

    -- a message more
    pub logs_sent : (t : ℕ) (m : Message) → x ≡ sent t m → m.id ≡ next → (c < n) × (m.to < n) × (m.to ≡ c → ⊥) → m.from ≡ c → Sound H oldest →
        Logs n G oldest (put told m.id m) (log ++ (record { message = m; receipt = None } ∷ [])) (suc next)
    logs_sent t m is idn prop fr sd =
        record {
          stands = λ y a. elim (among_append log (new ∷ []) y a) [
            | inl b ↦ (let q = lg.stands y b in (q.0, in_more H G c x gr y.message.from (sent q.0 y.message) q.1))
            | inr b ↦ elim b [
              | inl e ↦ (t, subst (λ (z : Logged). sent t z.message ∈ G z.message.from) (sym e) new_in)
              | inr d ↦ elim d [ ]
            ]
          ];
          waiting = λ y a e u k h. elim (among_append log (new ∷ []) y a) [
            | inl b ↦ lg.waiting y b e u k (got_was no_get k u y.message h)
            | inr b ↦ elim b [
              | inl f ↦ never u k (got_was no_get k u m (subst (λ (z : Logged). got u z.message ∈ G k) f h))
              | inr d ↦ elim d [ ]
            ]
          ];
          received = λ y r a e. elim (among_append log (new ∷ []) y a) [
            | inl b ↦ received_more y r b e
            | inr b ↦ elim b [
              | inl f ↦ (let g : y.receipt ≡ None = ap (λ (z : Logged). z.receipt) f in let z : ◌≡◌ {A = ℕ} 0 1 = cc in absurd (omega arith))
              | inr d ↦ elim d [ ]
            ]
          ];
          kept = λ i u l h. elim (in_split H G c x gr i (sent u l) h) [
            | inl a ↦ inl (None, among_right log (new ∷ []) _ (inl (ap (λ (z : Message). record { message = z; receipt = None }) (same_message u l (a.1 ∙ is)))))
            | inr a ↦ elim (lg.kept i u l a) [
              | inl q ↦ inl (q.0, among_left log (new ∷ []) _ q.1)
              | inr q ↦ inr (q.0, q.1, part_more H G c x gr l.to (got q.0 l) q.1 q.2, q.3)
            ]
          ];
          ids = ids_append log new lg.ids (λ y a. let q = logged-below y a in omega arith);
          id_below = λ i u l h. elim (in_split H G c x gr i (sent u l) h) [
            | inl a ↦ (let q : l.id ≡ m.id = ap (λ (z : Message). z.id) (same_message u l (a.1 ∙ is)) in omega arith)
            | inr a ↦ (let q = lg.id_below i u l a in omega arith)
          ];
          id_one = λ i k u v l o h g e. elim (in_split H G c x gr i (sent u l) h) [
            | inl a ↦ elim (in_split H G c x gr k (sent v o) g) [
              | inl b ↦ same_message u l (a.1 ∙ is) ∙ sym (same_message v o (b.1 ∙ is))
              | inr b ↦ (
                  let q : l.id ≡ m.id = ap (λ (z : Message). z.id) (same_message u l (a.1 ∙ is)) in
                  let p = lg.id_below k v o b in
                  absurd (omega arith))
            ]
            | inr a ↦ elim (in_split H G c x gr k (sent v o) g) [
              | inl b ↦ (
                  let q : o.id ≡ m.id = ap (λ (z : Message). z.id) (same_message v o (b.1 ∙ is)) in
                  let p = lg.id_below i u l a in
                  absurd (omega arith))
              | inr b ↦ lg.id_one i k u v l o a b e
            ]
          ];
          told_right = λ y a. elim (among_append log (new ∷ []) y a) [
            | inl b ↦ elim (eqb_ways y.message.id m.id m (told y.message.id)) [
              | inl w ↦ (let p = w.0 in let q = logged-below y b in absurd (omega arith))
              | inr w ↦ w.1 ∙ lg.told_right y b
            ]
            | inr b ↦ elim b [
              | inl f ↦ elim (eqb_ways y.message.id m.id m (told y.message.id)) [
                | inl w ↦ w.1 ∙ sym (ap (λ (z : Logged). z.message) f)
                | inr w ↦ absurd (w.0 (ap (λ (z : Logged). z.message.id) f))
              ]
              | inr d ↦ elim d [ ]
            ]
          ];
          proper = λ i u l h. elim (in_split H G c x gr i (sent u l) h) [
            | inl a ↦ (
                let q : l.to ≡ m.to = ap (λ (z : Message). z.to) (same_message u l (a.1 ∙ is)) in
                (subst (λ (z : ℕ). z < n) (sym a.0) prop.0, subst (λ (z : ℕ). z < n) (sym q) prop.1, (λ e. prop.2 (sym q ∙ e ∙ a.0))))
            | inr a ↦ lg.proper i u l a
          ];
          once = λ j k u v l h g. lg.once j k u v l (got_was no_get j u l h) (got_was no_get k v l g);
        }
      where
        new : Logged
        new = record { message = m; receipt = None }

        no_get : (u : ℕ) (l : Message) → x ≡ got u l → ⊥
        no_get u l e = let z : ◌≡◌ {A = ℕ} 0 1 = cc in omega arith

        same_message : (u : ℕ) (l : Message) → sent u l ≡ sent t m → l ≡ m
        same_message u l e = cc

        new_in : sent t m ∈ G m.from
        new_in = subst (λ (z : ℕ). sent t m ∈ G z) (sym fr) (subst (λ (z : Event). z ∈ G c) is (in_new H G c x gr))

        logged-below : (y : Logged) → Among y log → y.message.id < next
        logged-below y a = let q = lg.stands y a in lg.id_below y.message.from q.0 y.message q.1

        never : (u k : ℕ) → got u m ∈ H k → ⊥
        never u k h = let d = (sd.messages.gets k u m h).2 in let q = lg.id_below m.from d.0 m d.1 in omega arith

    -- a delivery more: the message gets its receipt number
    pub logs_got : (t : ℕ) (y : Logged) → x ≡ got t y.message → Among y log → y.receipt ≡ None → y.message.to ≡ c → (r : ℕ) → number (H c) ≡ r →
        Logs n G oldest told (map (receive y.message.id r) log) next
    logs_got t y is ya yn yto r nr =
        record {
          stands = λ z a. (
              let q = among_unmap (receive id r) log z a in
              let s = lg.stands q.0 q.1 in
              let e : z.message ≡ q.0.message = ap (λ (w : Logged). w.message) q.2 ∙ same q.0 in
              (s.0, subst (λ (w : Message). sent s.0 w ∈ G w.from) (sym e) (in_more H G c x gr q.0.message.from (sent s.0 q.0.message) s.1)));
          waiting = λ z a e u k h. (
              let q = among_unmap (receive id r) log z a in
              elim (eqb_ways q.0.message.id id (record { message = q.0.message; receipt = Some r }) q.0) [
                | inl w ↦ (let f : z.receipt ≡ Some r = ap (λ (v : Logged). v.receipt) (q.2 ∙ w.1) in let o : ◌≡◌ {A = ℕ} 0 1 = cc in absurd (omega arith))
                | inr w ↦ (
                    let f : z ≡ q.0 = q.2 ∙ w.1 in
                    let g : got u q.0.message ∈ G k = subst (λ (v : Logged). got u v.message ∈ G k) f h in
                    elim (in_split H G c x gr k (got u q.0.message) g) [
                      | inl b ↦ absurd (w.0 (ap (λ (v : Message). v.id) (same_message u q.0.message (b.1 ∙ is))))
                      | inr b ↦ lg.waiting q.0 q.1 (sym (ap (λ (v : Logged). v.receipt) f) ∙ e) u k b
                    ])
              ]);
          received = λ z s a e. (
              let q = among_unmap (receive id r) log z a in
              elim (eqb_ways q.0.message.id id (record { message = q.0.message; receipt = Some r }) q.0) [
                | inl w ↦ (
                    let f : z.receipt ≡ Some r = ap (λ (v : Logged). v.receipt) (q.2 ∙ w.1) in
                    let g : r ≡ s = cc in
                    let mm : z.message ≡ y.message = ap (λ (v : Logged). v.message) q.2 ∙ same q.0 ∙ one q.0 q.1 w.0 in (
                      t,
                      H c,
                      subst (λ (v : Message). Part (got t v) (H c) (G v.to)) (sym mm)
                          (subst (λ (v : ℕ). Part (got t y.message) (H c) (G v)) (sym yto) (subst (λ (v : Event). Part v (H c) (G c)) is (part_new H G c x gr))),
                      nr ∙ g,
                    ))
                | inr w ↦ (
                    let f : z ≡ q.0 = q.2 ∙ w.1 in
                    let p = received_more q.0 s q.1 (sym (ap (λ (v : Logged). v.receipt) f) ∙ e) in
                    (p.0, p.1, subst (λ (v : Logged). Part (got p.0 v.message) p.1 (G v.message.to)) (sym f) p.2, p.3))
              ]);
          kept = λ i u l h. elim (lg.kept i u l (sent_was no_send i u l h)) [
            | inl q ↦ (
                let z : Logged = record { message = l; receipt = q.0 } in
                let a = among_map (receive id r) log z q.1 in
                inl ((receive id r z).receipt, subst (λ (v : Message). Among (record { message = v; receipt = (receive id r z).receipt }) (map (receive id r) log)) (same z) a))
            | inr q ↦ inr (q.0, q.1, part_more H G c x gr l.to (got q.0 l) q.1 q.2, q.3)
          ];
          ids = ids_map (receive id r) log same lg.ids;
          id_below = λ i u l h. lg.id_below i u l (sent_was no_send i u l h);
          id_one = λ i k u v l o h g. lg.id_one i k u v l o (sent_was no_send i u l h) (sent_was no_send k v o g);
          told_right = λ z a. (
              let q = among_unmap (receive id r) log z a in
              let e : z.message ≡ q.0.message = ap (λ (w : Logged). w.message) q.2 ∙ same q.0 in
              ap (λ (w : Message). told w.id) e ∙ lg.told_right q.0 q.1 ∙ sym e);
          proper = λ i u l h. lg.proper i u l (sent_was no_send i u l h);
          once = λ j k u v l h g. elim (in_split H G c x gr j (got u l) h) [
            | inl a ↦ elim (in_split H G c x gr k (got v l) g) [
              | inl b ↦ ap time (a.1 ∙ sym b.1)
              | inr b ↦ absurd (lg.waiting y ya yn v k (subst (λ (w : Message). got v w ∈ H k) (same_message u l (a.1 ∙ is)) b))
            ]
            | inr a ↦ elim (in_split H G c x gr k (got v l) g) [
              | inl b ↦ absurd (lg.waiting y ya yn u j (subst (λ (w : Message). got u w ∈ H j) (same_message v l (b.1 ∙ is)) a))
              | inr b ↦ lg.once j k u v l a b
            ]
          ];
        }
      where
        id : ℕ
        id = y.message.id

        no_send : (u : ℕ) (l : Message) → x ≡ sent u l → ⊥
        no_send u l e = let z : ◌≡◌ {A = ℕ} 0 1 = cc in omega arith

        same_message : (u : ℕ) (l : Message) → got u l ≡ got t y.message → l ≡ y.message
        same_message u l e = cc

        same : (z : Logged) → (receive id r z).message ≡ z.message
        same z =
            elim (eqb_ways z.message.id id (record { message = z.message; receipt = Some r }) z) [
              | inl w ↦ ap (λ (v : Logged). v.message) w.1
              | inr w ↦ ap (λ (v : Logged). v.message) w.1
            ]

        one : (z : Logged) → Among z log → z.message.id ≡ id → z.message ≡ y.message
        one z a e = sym (lg.told_right z a) ∙ ap told e ∙ lg.told_right y ya
