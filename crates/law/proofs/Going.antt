-- While alerts are carried, places strike only what is reached, and every pair of clusters that is not final has an alert that waits.
use Rattle.store.specs.Table.{both}
use Rattle.std.proofs.Common.{◌≡◌, ℕ, suc, ◌<◌, ◌≤◌, Bool, true, false, cond, not, eqb, ltb, ◌⊎◌, List, [], length, get_or, set, Some, None, Option, sym, refl, ap, ◌∙◌, subst, inl, inr, arith, length-set, get_or-set_other, get_or-set_same}
use Rattle.std.proofs.lemmas.Bool.{eqb-true, eqb-false, ltb-true, ltb-false, cases_lt, cases_eq}
use Rattle.law.specs.declared.Checkpoint.{Checkpoint}
use Rattle.law.specs.declared.Alerts.{Alerts}
use Rattle.law.specs.declared.Restart.{Restart}
use Rattle.law.specs.Book.{Cluster, entry, checkpoint_at, row_or, nobody, stays}
use Rattle.law.specs.Restarts.{place, waits, entry_at, called_to, latest, carry, carried, taken, to_others, to_nobody}
use Rattle.law.specs.Law.{Among}
use Rattle.law.specs.Events.{Event, Lists, After, back, number, heard}
use Rattle.law.specs.Chains.{Reached}
use Rattle.law.proofs.Lists.{part-number, part-after, after-number, eqb_ways, leb_ways}
use Rattle.law.proofs.Moves.{OnlyReached, first, Move, move}
use Rattle.law.proofs.Exact.{FailedGoBack}
use Rattle.law.proofs.Sound.{Sound, rows}
use Rattle.law.proofs.Cuts.{KeptPlaces, back-stays}
use Rattle.law.proofs.Waiting.{taken_other, taken_was, taken_long, others_true, others_only, others_long}
use Rattle.law.proofs.Kept.{ClusterAgrees, heard-back, heard-lower, heard_at, back_fresh, checkpoint_found, Chosen, latest_is}

-- the places of a restart, a cluster that stays having one above its number
abbrev pub places_of : ℕ → Restart → Lists → ℕ → ℕ
places_of n r H i = cond (both (ltb i n) (not (eqb (place r i) stays))) (place r i) (suc (number (H i)))

pub places_ways : (n : ℕ) (r : Restart) (H : Lists) (i : ℕ) →
    ((i < n) × (place r i ≡ stays → ⊥) × (places_of n r H i ≡ place r i)) ⊎ ((i < n → place r i ≡ stays) × (places_of n r H i ≡ suc (number (H i))))
places_ways n r H i = go (ltb i n) (eqb (place r i) stays) refl refl
  where
    go : (a b : Bool) → ltb i n ≡ a → eqb (place r i) stays ≡ b →
        ((i < n) × (place r i ≡ stays → ⊥) × (cond (both a (not b)) (place r i) (suc (number (H i))) ≡ place r i)) ⊎ ((i < n → place r i ≡ stays) × (cond (both a (not b)) (place r i) (suc (number (H i))) ≡ suc (number (H i))))
    go true true e f = inr ((λ h. eqb-true (place r i) stays f), refl)
    go true false e f = inl (ltb-true i n e, eqb-false (place r i) stays f, refl)
    go false b e f = inr ((λ h. let k = ltb-false i n e in absurd (omega arith)), refl)

pub record Going (n : ℕ) (H : Lists) (oldest : ℕ → ℕ) (failed : ℕ → Bool) (r : Restart) : Type 0 where
  pub places_long : length r.places ≡ 8
  pub waiting_long : length r.waiting ≡ 8
  pub to_long : (i : ℕ) → length (get_or r.waiting i to_nobody).to ≡ 8
  pub only : OnlyReached H failed (places_of n r H)
  pub kept : (j : ℕ) → j < n → (place r j ≡ stays) ⊎ ((oldest j ≤ place r j) × (place r j ≤ number (H j)))
  pub go_back : FailedGoBack H failed (places_of n r H)
  pub pending : (i k : ℕ) → (i ≡ k → ⊥) → (heard i (back (places_of n r H k) (H k)) < places_of n r H i) ⊎ (waits r i k ≡ true)
  pub proper : (i k : ℕ) → waits r i k ≡ true → (i < n) × (k < n) × (i ≡ k → ⊥)
  -- a cluster is called back only where something is struck, or where it failed
  pub struck : (j : ℕ) → j < n → (place r j ≡ stays → ⊥) → (failed j ≡ true) ⊎ ((e : Event) × After (place r j) (H j) e)

-- the book's clusters agree with the events
pub record Clusters (n : ℕ) (cs : List Cluster) (H : Lists) (oldest : ℕ → ℕ) : Type 0 where
  pub count : length cs ≡ n
  pub few : n ≤ 8
  pub agree : (i : ℕ) → i < n → ClusterAgrees n i (get_or cs i nobody) (oldest i) (H i)
  pub small : (i : ℕ) → number (H i) < stays
  -- there is nothing to hear where there is no cluster
  pub silent : (k : ℕ) → n ≤ k → (a : ℕ) → heard a (H k) ≡ 0

-- nobody has heard of a number that is not there
pub heard-number : (H : Lists) (oldest : ℕ → ℕ) → Sound H oldest → (i k : ℕ) → heard i (H k) ≤ number (H i)
heard-number H oldest sd i k =
    elim (cases_lt (heard i (H k)) 1) [
      | inl z ↦ omega arith
      | inr z ↦ (
          let f = first H heard (rows H oldest sd) i (heard i (H k)) z (H k) (omega arith) in
          let s = (rows H oldest sd).source k i (heard i (H k)) f.event f.before f.part f.below f.reaches in
          after-number (heard i (H k)) (H i) s.0 s.1)
    ]

module _ (n : ℕ) (H : Lists) (oldest : ℕ → ℕ) (failed : ℕ → Bool) (cs : List Cluster) (sd : Sound H oldest) (cl : Clusters n cs H oldest) (r : Restart) (go : Going n H oldest failed r) where
  abbrev P : ℕ → ℕ
  P = places_of n r H

  pub positive : (i : ℕ) → 1 ≤ P i
  positive i =
      elim (places_ways n r H i) [
        | inl w ↦ (
            let a = w.2 in
            let o = sd.oldest_one i in
            elim (go.kept i w.0) [ inl s ↦ absurd (w.1 s) | inr s ↦ (let b = s.0 in omega arith) ])
        | inr w ↦ (let a = w.1 in omega arith)
      ]

  pub kept_places : KeptPlaces H oldest P
  kept_places j =
      elim (places_ways n r H j) [
        | inl w ↦ (
            let a = w.2 in
            elim (go.kept j w.0) [ inl s ↦ absurd (w.1 s) | inr s ↦ (let b = s.0 in let c = s.1 in inr (omega arith)) ])
        | inr w ↦ inl w.1
      ]

  pub heard_place : (i k p : ℕ) → heard i (back p (H k)) ≤ number (H i)
  heard_place i k p = let a = heard-back i p (H k) in let b = heard-number H oldest sd i k in omega arith

  module _ (i j : ℕ) (hi : i < n) (hj : j < n) (ne : i ≡ j → ⊥) where
    agree_j : ClusterAgrees n j (get_or cs j nobody) (oldest j) (H j)
    agree_j = cl.agree j hj

    stays_all : place r j ≡ stays → back (P j) (H j) ≡ H j
    stays_all e =
        elim (places_ways n r H j) [
          | inl w ↦ absurd (w.1 e)
          | inr w ↦ back-stays (P j) (H j) (let a = w.1 in omega arith)
        ]

    called_place : (place r j ≡ stays → ⊥) → (P j ≡ place r j) × (oldest j ≤ place r j) × (place r j ≤ number (H j))
    called_place e =
        elim (places_ways n r H j) [
          | inl w ↦ elim (go.kept j hj) [ inl s ↦ absurd (e s) | inr s ↦ (w.2, s.0, s.1) ]
          | inr w ↦ absurd (e (w.0 hj))
        ]

    called_entry : (place r j ≡ stays → ⊥) → entry (row_or [] (checkpoint_at (get_or cs j nobody).kept (place r j))) i ≡ heard i (back (P j) (H j))
    called_entry e =
        let c = called_place e in
        let k = agree_j.kept_all (place r j) c.1 c.2 in
        let f = checkpoint_found (get_or cs j nobody).kept k.0 k.1 in
        let g : checkpoint_at (get_or cs j nobody).kept (place r j) ≡ Some f.0 = subst (λ (z : ℕ). checkpoint_at (get_or cs j nobody).kept z ≡ Some f.0) k.2 f.1 in
        let q = (agree_j.kept_in f.0 f.2).2.others i hi ne in
        let m : f.0.number ≡ P j = f.3 ∙ k.2 ∙ sym c.0 in
        ap (λ (z : Option Checkpoint). entry (row_or [] z) i) g ∙ q ∙ ap (λ (z : ℕ). heard i (back z (H j))) m

    pub entry_is : entry_at cs r i j ≡ heard i (back (P j) (H j))
    entry_is =
        elim (eqb_ways (place r j) stays (entry (get_or cs j nobody).row i) (entry (row_or [] (checkpoint_at (get_or cs j nobody).kept (place r j))) i)) [
          | inl w ↦ w.1 ∙ agree_j.live.others i hi ne ∙ ap (heard i) (sym (stays_all w.0))
          | inr w ↦ w.1 ∙ called_entry w.0
        ]

    safe_reached : (e : Event) → Reached H failed j e → After (oldest j) (H j) e
    safe_reached e rc = sd.safe rc.cluster j rc.event e rc.lost.1 rc.chain

    -- the search in the book finds the place of the move
    search_finds : (q : ℕ) → Move H heard failed i j (place r i) (P j) q → q ≤ number (H j) → oldest j ≤ q → latest i (place r i) (place r j) (get_or cs j nobody).kept None ≡ Some q
    search_finds q mv hq ho =
        let k = agree_j.kept_all q ho hq in
        let row-k = (agree_j.kept_in k.0 k.1).2 in
        let here : heard i (back q (H j)) < place r i =
        subst (λ (z : List Event). heard i z < place r i) (sym (ap (λ (z : ℕ). back z (H j)) mv.is ∙ back_fresh (H j) mv.event mv.before mv.part mv.fresh)) mv.below in
        let entry-k : entry k.0.row i ≡ heard i (back q (H j)) = row-k.others i hi ne ∙ ap (λ (z : ℕ). heard i (back z (H j))) k.2 in
        let kn = k.2 in
        let lo = mv.lower in
        let below-place : k.0.number < place r j = below_it q hq kn lo in
        latest_is i (place r i) (place r j) (get_or cs j nobody).kept None agree_j.rising k.0 k.1 (below-place, omega arith) (later-not q mv kn)
        ∙ ap (λ (z : ℕ). Some z) kn
      where
        below_it : (q : ℕ) {m : ℕ} → q ≤ number (H j) → m ≡ q → q < P j → m < place r j
        below_it q {m} hq e lo =
            elim (places_ways n r H j) [
              | inl w ↦ (let a = w.2 in omega arith)
              | inr w ↦ (let a = w.0 hj in let b = cl.small j in omega arith)
            ]

        later-not : (q : ℕ) {m : ℕ} → Move H heard failed i j (place r i) (P j) q → m ≡ q → (c : Checkpoint) → Among c (get_or cs j nobody).kept → m < c.number → Chosen i (place r i) (place r j) c → ⊥
        later-not q mv e c a lt ch =
            let row-c = (agree_j.kept_in c a).2.others i hi ne in
            let u = mv.is in
            let v = heard_at i c.number (H j) mv.event mv.before mv.part (omega arith) in
            let w = mv.reaches in
            let x = ch.1 in
            omega arith

    pub called_ways : ((called_to cs r i j ≡ None) × (heard i (back (P j) (H j)) < P i)) ⊎ ((q : ℕ) × (called_to cs r i j ≡ Some q) × Move H heard failed i j (P i) (P j) q × (oldest j ≤ q) × (q ≤ number (H j)))
    called_ways =
        elim (leb_ways (place r i) (entry_at cs r i j) (latest i (place r i) (place r j) (get_or cs j nobody).kept None) None) [
          | inl w ↦ (
              let a = w.0 in
              let b = entry_is in
              let c = heard_place i j (P j) in
              let d = cl.small i in
              elim (places_ways n r H i) [
                | inl v ↦ (
                    let e = v.2 in
                    let mv = move H heard failed P sd.messages (rows H oldest sd) go.only i j (positive i) (omega arith) in
                    let q = mv.0 in
                    let m : Move H heard failed i j (place r i) (P j) q = subst (λ (z : ℕ). Move H heard failed i j z (P j) q) e mv.1 in
                    let ho = mv.1.kept (oldest j) safe_reached in
                    let hn = part-number (H j) mv.1.event mv.1.before mv.1.part in
                    let is = mv.1.is in
                    inr (q, w.1 ∙ search_finds q m (omega arith) ho, mv.1, ho, omega arith))
                | inr v ↦ (let e = v.0 hi in absurd (omega arith))
              ])
          | inr w ↦ (
              let a = w.0 in
              let b = entry_is in
              let c = heard_place i j (P j) in
              elim (places_ways n r H i) [
                | inl v ↦ (let e = v.2 in inl (w.1, omega arith))
                | inr v ↦ (let e = v.1 in inl (w.1, omega arith))
              ])
        ]

    hw : i < length r.waiting
    hw = let a = go.waiting_long in let b = cl.few in omega arith

    not-moved : heard i (back (P j) (H j)) < P i → Going n H oldest failed (carried n r i j None)
    not-moved fin =
        record {
          places_long = go.places_long;
          waiting_long = length-set r.waiting i (record { to = set (get_or r.waiting i to_nobody).to j false }) ∙ go.waiting_long;
          to_long = λ a. taken_long r i j hw a (go.to_long a);
          only = go.only;
          kept = go.kept;
          go_back = go.go_back;
          pending = λ a k d. elim (go.pending a k d) [
            | inl f ↦ inl f
            | inr w ↦ elim (cases_eq a i) [
              | inl e ↦ elim (cases_eq k j) [
                | inl f ↦ inl (subst (λ (z : ℕ). heard a (back (P z) (H z)) < P a) (sym f) (subst (λ (z : ℕ). heard z (back (P j) (H j)) < P z) (sym e) fin))
                | inr f ↦ inr (taken_other r i j hw a k (λ _. f) ∙ w)
              ]
              | inr e ↦ inr (taken_other r i j hw a k (λ x _. e x) ∙ w)
            ]
          ];
          proper = λ a k w. go.proper a k (taken_was r i j hw a k w);
          struck = go.struck;
        }

    module _ (q : ℕ) (mv : Move H heard failed i j (P i) (P j) q) (ho : oldest j ≤ q) (hq : q ≤ number (H j)) where
      abbrev r' : Restart
      r' = carried n r i j (Some q)

      place_here : place r' j ≡ q
      place_here = get_or-set_same r.places j q 0 (let a = go.places_long in let b = cl.few in omega arith)

      place_there : (k : ℕ) → (k ≡ j → ⊥) → place r' k ≡ place r k
      place_there k ne = get_or-set_other r.places j k q 0 ne

      pub moved_here : places_of n r' H j ≡ q
      moved_here =
          let s = cl.small j in
          let p = place_here in
          elim (places_ways n r' H j) [ inl w ↦ w.2 ∙ p | inr w ↦ (let a = w.0 hj in absurd (omega arith)) ]

      pub moved_there : (k : ℕ) → (k ≡ j → ⊥) → places_of n r' H k ≡ P k
      moved_there k ne = ap (λ (z : ℕ). cond (both (ltb k n) (not (eqb z stays))) z (suc (number (H k)))) (place_there k ne)

      hj_long : j < length (taken r i j)
      hj_long =
          let a = go.waiting_long in
          let b = cl.few in
          let c = length-set r.waiting i (record { to = set (get_or r.waiting i to_nobody).to j false }) in
          omega arith

      alerts_here : get_or r'.waiting j to_nobody ≡ to_others n j
      alerts_here = get_or-set_same (taken r i j) j (to_others n j) to_nobody hj_long

      alerts_there : (a : ℕ) → (a ≡ j → ⊥) → get_or r'.waiting a to_nobody ≡ get_or (taken r i j) a to_nobody
      alerts_there a ne = get_or-set_other (taken r i j) j a (to_others n j) to_nobody ne

      waits_there : (a k : ℕ) → (a ≡ j → ⊥) → (a ≡ i → k ≡ j → ⊥) → waits r a k ≡ true → waits r' a k ≡ true
      waits_there a k ne d w = ap (λ (z : Alerts). get_or z.to k false) (alerts_there a ne) ∙ taken_other r i j hw a k d ∙ w

      pending_here : (a : ℕ) → (a ≡ j → ⊥) → (heard a (back q (H j)) < places_of n r' H a) ⊎ (waits r' a j ≡ true)
      pending_here a d =
          let pa = moved_there a d in
          elim (cases_eq a i) [
            | inl e ↦ (
                let b : heard i (back q (H j)) < P i =
                subst (λ (z : List Event). heard i z < P i) (sym (ap (λ (z : ℕ). back z (H j)) mv.is ∙ back_fresh (H j) mv.event mv.before mv.part mv.fresh)) mv.below in
                let c : heard a (back q (H j)) < P a = subst (λ (z : ℕ). heard z (back q (H j)) < P z) (sym e) b in
                inl (omega arith))
            | inr e ↦ elim (go.pending a j d) [
              | inl f ↦ (let l = mv.lower in let g = heard-lower a q (P j) (H j) (omega arith) in inl (omega arith))
              | inr w ↦ inr (waits_there a j d (λ x _. e x) w)
            ]
          ]

      pending_there : (a k : ℕ) → (a ≡ k → ⊥) → (k ≡ j → ⊥) → (heard a (back (places_of n r' H k) (H k)) < places_of n r' H a) ⊎ (waits r' a k ≡ true)
      pending_there a k d ne =
          elim (cases_eq a j) [
            | inl e ↦ elim (cases_lt k n) [
              | inl h ↦ inr (ap (λ (z : ℕ). waits r' z k) e ∙ ap (λ (z : Alerts). get_or z.to k false) alerts_here ∙ others_true n j k h ne)
              | inr h ↦ (
                  let x = heard-back a (places_of n r' H k) (H k) in
                  let y = cl.silent k h a in
                  let z : places_of n r' H a ≡ q = ap (places_of n r' H) e ∙ moved_here in
                  let u = mv.positive in
                  inl (omega arith))
            ]
            | inr e ↦ (
                let pa = moved_there a e in
                elim (go.pending a k d) [
                  | inl f ↦ inl (subst (λ (z : ℕ). heard a (back z (H k)) < places_of n r' H a) (sym (moved_there k ne)) (omega arith))
                  | inr w ↦ inr (waits_there a k e (λ _. ne) w)
                ])
          ]

      did_move : Going n H oldest failed r'
      did_move =
          record {
            places_long = length-set r.places j q ∙ go.places_long;
            waiting_long = length-set (taken r i j) j (to_others n j) ∙ length-set r.waiting i (record { to = set (get_or r.waiting i to_nobody).to j false }) ∙ go.waiting_long;
            to_long = λ a. elim (cases_eq a j) [
              | inl e ↦ ap (λ (z : ℕ). length (get_or r'.waiting z to_nobody).to) e ∙ ap (λ (z : Alerts). length z.to) alerts_here ∙ others_long n j cl.few
              | inr e ↦ ap (λ (z : Alerts). length z.to) (alerts_there a e) ∙ taken_long r i j hw a (go.to_long a)
            ];
            only = λ k e h. elim (cases_eq k j) [
              | inl d ↦ subst (λ (z : ℕ). Reached H failed z e) (sym d) (mv.only e (subst (λ (z : ℕ). After z (H j) e) moved_here (subst (λ (z : ℕ). After (places_of n r' H z) (H z) e) d h)))
              | inr d ↦ go.only k e (subst (λ (z : ℕ). After z (H k) e) (moved_there k d) h)
            ];
            kept = λ k hk. elim (cases_eq k j) [
              | inl d ↦ (
                  let p : place r' k ≡ q = ap (place r') d ∙ place_here in
                  let a : oldest k ≡ oldest j = ap oldest d in
                  let b : number (H k) ≡ number (H j) = ap (λ (z : ℕ). number (H z)) d in
                  inr (omega arith))
              | inr d ↦ elim (go.kept k hk) [
                | inl s ↦ inl (place_there k d ∙ s)
                | inr s ↦ (let p = place_there k d in let a = s.0 in let b = s.1 in inr (omega arith))
              ]
            ];
            go_back = λ f hf. elim (cases_eq f j) [
              | inl d ↦ (
                  let p : places_of n r' H f ≡ q = ap (places_of n r' H) d ∙ moved_here in
                  let b : number (H f) ≡ number (H j) = ap (λ (z : ℕ). number (H z)) d in
                  omega arith)
              | inr d ↦ (let p = moved_there f d in let a = go.go_back f hf in omega arith)
            ];
            pending = λ a k d. elim (cases_eq k j) [
              | inl e ↦ subst (λ (z : ℕ). (heard a (back (places_of n r' H z) (H z)) < places_of n r' H a) ⊎ (waits r' a z ≡ true)) (sym e)
                  (subst (λ (z : ℕ). (heard a (back z (H j)) < places_of n r' H a) ⊎ (waits r' a j ≡ true)) (sym moved_here) (pending_here a (λ x. d (x ∙ sym e))))
              | inr e ↦ pending_there a k d e
            ];
            proper = λ a k w. elim (cases_eq a j) [
              | inl e ↦ (
                  let o = others_only n j k (sym (ap (λ (z : ℕ). waits r' z k) e ∙ ap (λ (z : Alerts). get_or z.to k false) alerts_here) ∙ w) in
                  (subst (λ (z : ℕ). z < n) (sym e) hj, o.0, (λ x. o.1 (sym x ∙ e))))
              | inr e ↦ go.proper a k (taken_was r i j hw a k (sym (ap (λ (z : Alerts). get_or z.to k false) (alerts_there a e)) ∙ w))
            ];
            struck = λ k hk ns. elim (cases_eq k j) [
              | inl d ↦ inr (
                mv.event,
                subst (λ (z : ℕ). After (place r' z) (H z) mv.event) (sym d)
                    (part-after (place r' j) (H j) mv.event mv.before mv.part (let a = place_here in let c = mv.is in omega arith)),
              )
              | inr d ↦ subst (λ (z : ℕ). (failed k ≡ true) ⊎ ((e : Event) × After z (H k) e)) (sym (place_there k d)) (go.struck k hk (λ s. ns (place_there k d ∙ s)))
            ];
          }

    pub carry_going : Going n H oldest failed (carry cs r i j)
    carry_going =
        let c : carry cs r i j ≡ carried n r i j (called_to cs r i j) = ap (λ (z : ℕ). carried z r i j (called_to cs r i j)) cl.count in
        elim called_ways [
          | inl w ↦ subst (Going n H oldest failed) (sym (c ∙ ap (carried n r i j) w.0)) (not-moved w.1)
          | inr w ↦ subst (Going n H oldest failed) (sym (c ∙ ap (carried n r i j) w.1)) (did_move w.0 w.2 w.3 w.4)
        ]
