-- Arrive and answer: a message is delivered at once only where it raises no entry, and after a round directly behind its checkpoint.
use Rattle.std.proofs.Common.{◌≡◌, ℕ, suc, ◌+◌, ◌<◌, Bool, true, false, cond, eqb, ltb, List, [], ◌∷◌, map, length, get_or, set, is_some, Some, None, Option, sym, refl, ap, ◌∙◌, subst, ap₂, inl, inr, arith, length-set, length-take, get_or-set_other, get_or-take, get_or-set_same}
use Rattle.std.specs.List.{range_with_len}
use Rattle.std.proofs.lemmas.Bool.{true≢false, ltb-true, eqb-true}
use Rattle.refusal.specs.declared.Refusal.TheVariants as refuses
use Rattle.refusal.specs.declared.StoreRefusal.{StoreRefusal}
use Rattle.store.specs.Table.{keep_refusal}
use Rattle.law.specs.declared.Message.{Message}
use Rattle.law.specs.declared.Logged.{Logged}
use Rattle.law.specs.declared.Round.{Round}
use Rattle.law.specs.declared.Noted.TheVariants.{Missing, Committed}
use Rattle.law.specs.declared.Arrived.TheVariants.{Delivered, Forced}
use Rattle.law.specs.Book.{Book, Cluster, at, count, entry, logged, or_zero, number as number_in}
use Rattle.law.specs.Messages.{Rule, Meaning, forces, arrive_refusal, arrive_at, arrived, arrived_tells, round_refusal, new_round, open_round, deliver}
use Rattle.law.specs.Rounds.{answer_refusal, answer_at, answered, answered_tells, noted, notes, committed, deliver_logged, missing, from_store, keeps, saved as saved_in}
use Rattle.law.specs.Law.{Among}
use Rattle.law.specs.Events.{saved, got, number, heard}
use Rattle.law.specs.History.{Told, add, put, tell_got, tell_word, tell_saved, tell_delivered, tell_noted, tell_arrived}
use Rattle.law.proofs.Lists.{eqb_ways}
use Rattle.law.proofs.Facts.{Fresh}
use Rattle.law.proofs.Among.{logged_ways, logged_found}
use Rattle.law.proofs.State.{State, RoundAgrees, passes, escapes, not_some, set_here}
use Rattle.law.proofs.Quiet.{round_state, new_round_lem, room_for, restart_none}
use Rattle.law.proofs.Adding.{deliver_state, save_state}

-- a delivery as the history tells it, from the id alone
pub got_state : (n nodes : ℕ) (b : Book) (h : Told) → State n nodes b h → (y : Logged) → Among y b.log → y.receipt ≡ None → (at b y.message.to).round ≡ None → b.restart ≡ None →
    (heard y.message.from (h.events y.message.to) < y.message.number → Fresh (h.events y.message.to)) → (id : ℕ) → y.message.id ≡ id →
    State n nodes (deliver b y.message) (tell_got h id)
got_state n nodes b h st y ya yn quiet none fresh id e =
    let right : h.sends id ≡ y.message = ap h.sends (sym e) ∙ st.logs.told_right y ya in
    subst (λ (z : Message). State n nodes (deliver b y.message) (add h z.to (got h.clock z))) (sym right)
    (deliver_state n nodes b h st y ya yn quiet none fresh)

pub arrive_state : (n nodes : ℕ) (says : Rule) (b : Book) (h : Told) → State n nodes b h → Meaning says → (id rank : ℕ) → arrive_refusal says b id rank ≡ None →
    State n nodes (arrived says b rank (logged b.log id)) (tell_arrived h id (arrived_tells says b (logged b.log id)))
arrive_state n nodes says b h st means id rank ok =
    let p1 = passes (ltb rank b.nodes) refuses.NoRank _ ok in
    let p2 = escapes (is_some b.restart) refuses.RestartOpen _ p1.1 in
    elim (logged_ways b.log id) [
      | inl w ↦ (
          let q : Some refuses.NotInLog ≡ None = sym (ap (arrive_at says b) w) ∙ p2.1 in
          let z : ◌≡◌ {A = ℕ} 0 1 = cc in
          absurd (omega arith))
      | inr w ↦ subst (λ (z : Option Logged). State n nodes (arrived says b rank z) (tell_arrived h id (arrived_tells says b z))) (sym w.1)
          (go w.0 w.2 w.3 (not_some b.restart p2.0) (sym (ap (arrive_at says b) w.1) ∙ p2.1))
    ]
  where
    go : (x : Logged) → Among x b.log → x.message.id ≡ id → b.restart ≡ None → arrive_at says b (Some x) ≡ None →
        State n nodes (arrived says b rank (Some x)) (tell_arrived h id (arrived_tells says b (Some x)))
    go x xa xi none q =
        let q1 = escapes (is_some x.receipt) refuses.Delivered _ q in
        let q2 = escapes (is_some (at b x.message.to).round) refuses.RoundOpen _ q1.1 in
        ways (forces says b x.message) refl (not_some x.receipt q1.0) (not_some (at b x.message.to).round q2.0) q2.1
      where
        m : Message
        m = x.message

        hs : (m.from < n) × (m.to < n) × (m.to ≡ m.from → ⊥)
        hs = let s = st.logs.stands x xa in st.logs.proper m.from s.0 m s.1

        ways : (t : Bool) → forces says b m ≡ t → x.receipt ≡ None → (at b m.to).round ≡ None → cond t (round_refusal b m.to) None ≡ None →
            State n nodes (cond t (open_round b m.to rank (Some m.id)) (deliver b m)) (tell_arrived h id (cond t (Forced (suc (number_in b m.to))) (Delivered (number_in b m.to))))
        ways true e xn quiet room =
            round_state n nodes b h st m.to hs.1 (new_round rank (Some m.id))
            (new_round_lem b.log (h.words m.to) m.to (number (h.events m.to)) (length (at b m.to).kept) rank (Some m.id) (room_for n nodes b h st m.to hs.1 room)
            (λ k f. (x, xa, (let z : m.id ≡ k = cc in z), xn, refl)))
            none
        ways false e xn quiet room =
            got_state n nodes b h st x xa xn quiet none
            (λ lt. absurd (true≢false (sym (means (entry (at b m.to).row m.from) m.number (length (at b m.to).kept)
            (let a = (st.clusters.agree m.to hs.1).live.others m.from hs.0 (λ q. hs.2 (sym q)) in omega arith)) ∙ e)))
            id xi

-- the words noted are those told, once none is missing
pub words-noted : (l : List (Option ℕ)) (f : ℕ → ℕ) (a : ℕ) → missing l ≡ 0 → ((k w : ℕ) → k < length l → get_or l k None ≡ Some w → f (a + k) ≡ w) → map or_zero l ≡ map f (range_with_len a (length l))
words-noted [] f a none h = refl
words-noted (None ∷ l) f a none h = absurd (omega arith)
words-noted (Some w ∷ l) f a none h =
    let e : f a ≡ w = ap f (omega arith) ∙ h 0 w (omega arith) refl in
    let r = words-noted l f (a + 1) none (λ k v lt g. ap f (omega arith) ∙ h (suc k) v (omega arith) g) in
    ap₂ (λ (x : ℕ) (xs : List ℕ). x ∷ xs) (sym e) r

from_store_none : (o : Option StoreRefusal) → from_store o ≡ None → o ≡ None
from_store_none None e = refl
from_store_none (Some why) e = let z : ◌≡◌ {A = ℕ} 0 1 = cc in absurd (omega arith)

-- a word told for a node that had not answered
pub word_state : (n nodes : ℕ) (b : Book) (h : Told) → State n nodes b h → (i rank word : ℕ) (r : Round) → (at b i).round ≡ Some r → get_or r.answers rank None ≡ None → b.restart ≡ None →
    State n nodes b (tell_word h i rank word)
word_state n nodes b h st i rank word r round free none =
    record {
      nodes_is = st.nodes_is;
      few-nodes = st.few-nodes;
      clusters = st.clusters;
      last = st.last;
      sound = st.sound;
      clock = st.clock;
      beyond = st.beyond;
      logs = st.logs;
      rounds = λ k q e. (
          let old = st.rounds k q e in
          record {
            room = old.room;
            waits_for = old.waits_for;
            long = old.long;
            answered = λ a w f. elim (eqb_ways k i (put (h.words i) rank word) (h.words k)) [
              | inl v ↦ (
                  let qr : q ≡ r = (let x : (at b i).round ≡ Some q = ap (λ (z : ℕ). (at b z).round) (sym v.0) ∙ e in cc) in
                  elim (eqb_ways a rank word (h.words i a)) [
                    | inl u ↦ (
                        let x : get_or r.answers rank None ≡ Some w = ap (λ (z : ℕ). get_or r.answers z None) (sym u.0) ∙ ap (λ (z : Round). get_or z.answers a None) (sym qr) ∙ f in
                        let z : ◌≡◌ {A = ℕ} 0 1 = cc in
                        absurd (omega arith))
                    | inr u ↦ ap (λ (g : ℕ → ℕ). g a) v.1 ∙ u.1 ∙ ap (λ (z : ℕ). h.words z a) (sym v.0) ∙ old.answered a w f
                  ])
              | inr v ↦ ap (λ (g : ℕ → ℕ). g a) v.1 ∙ old.answered a w f
            ];
          });
      few_kept = st.few_kept;
      table = st.table;
      unique = st.unique;
      restart = restart_none n b.clusters (tell_word h i rank word) b.restart none;
      alerts = st.alerts;
    }

module _ (n nodes : ℕ) (b : Book) (h : Told) (st : State n nodes b h) (i rank word : ℕ) (r : Round) (round : (at b i).round ≡ Some r) (free : get_or r.answers rank None ≡ None) (hi : i < n) (hr : rank < nodes) (none : b.restart ≡ None) where
  abbrev g : Told
  g = tell_word h i rank word

  st2 : State n nodes b g
  st2 = word_state n nodes b h st i rank word r round free none

  old : RoundAgrees b.log (h.words i) i (number (h.events i)) (length (at b i).kept) r
  old = st.rounds i r round

  abbrev answers : List (Option ℕ)
  answers = set r.answers rank (Some word)

  words_here : (a : ℕ) → g.words i a ≡ put (h.words i) rank word a
  words_here a = elim (eqb_ways i i (put (h.words i) rank word) (h.words i)) [ inl w ↦ ap (λ (f : ℕ → ℕ). f a) w.1 | inr w ↦ absurd (w.0 refl) ]

  answers-told : (a w : ℕ) → get_or answers a None ≡ Some w → g.words i a ≡ w
  answers-told a w f =
      words_here a ∙ elim (eqb_ways a rank word (h.words i a)) [
        | inl u ↦ (
            let l = old.long in
            let few = st.few-nodes in
            let x : get_or answers a None ≡ Some word = ap (λ (z : ℕ). get_or answers z None) u.0 ∙ get_or-set_same r.answers rank (Some word) None (omega arith) in
            let y : word ≡ w = cc in
            u.1 ∙ y)
        | inr u ↦ u.1 ∙ old.answered a w (sym (get_or-set_other r.answers rank a (Some word) None u.0) ∙ f)
      ]

  pub notes_state : State n nodes (notes b i r rank word) g
  notes_state =
      round_state n nodes b g st2 i hi (record { initiator = r.initiator; answers = answers; waiting = r.waiting })
      (record { room = old.room; waits_for = old.waits_for; long = length-set r.answers rank (Some word) ∙ old.long; answered = answers-told }) none

  module _ (all : missing (noted b r rank word) ≡ 0) (ok : keep_refusal b.store i (suc (number_in b i)) (map or_zero (noted b r rank word)) ≡ None) where
    abbrev ws : List ℕ
    ws = map or_zero (noted b r rank word)

    noted_long : length (noted b r rank word) ≡ nodes
    noted_long =
        let l = length-take b.nodes answers in
        let s = length-set r.answers rank (Some word) in
        let o = old.long in
        let f = st.few-nodes in
        let e = st.nodes_is in
        l ∙ omega arith

    words_right : ws ≡ map (g.words i) (range_with_len 0 nodes)
    words_right =
        words-noted (noted b r rank word) (g.words i) 0 all
        (λ k w lt f. ap (g.words i) (omega arith) ∙ answers-told k w (sym (get_or-take b.nodes answers k None (let l = noted_long in let e = st.nodes_is in omega arith)) ∙ f))
        ∙ ap (λ (z : ℕ). map (g.words i) (range_with_len 0 z)) noted_long

    saved_state : State n nodes (keeps b i ws) (tell_saved nodes g i)
    saved_state = save_state n nodes b g st2 i r hi round ws words_right ok none

    pub commit_state : (w : Option ℕ) → r.waiting ≡ w → State n nodes (committed b i ws w) (tell_delivered (tell_saved nodes g i) w)
    commit_state None e = saved_state
    commit_state (Some id) e =
        let p = old.waits_for id e in
        let x = p.0 in
        let lf : logged b.log id ≡ Some x = subst (λ (z : ℕ). logged b.log z ≡ Some x) p.2 (logged_found b.log x st.logs.ids p.1) in
        let hl : i < length b.clusters = (let c = st.clusters.count in omega arith) in
        let here : (at (keeps b i ws) x.message.to).round ≡ None =
        ap (λ (z : ℕ). (at (keeps b i ws) z).round) p.4 ∙ ap (λ (z : Cluster). z.round) (set_here b.clusters i (saved_in i (at b i)) hl) in
        let top : (tell_saved nodes g i).events x.message.to ≡ saved h.clock (map (g.words i) (range_with_len 0 nodes)) ∷ h.events i =
        ap (tell_saved nodes g i).events p.4 ∙ elim (eqb_ways i i (saved h.clock (map (g.words i) (range_with_len 0 nodes)) ∷ h.events i) (h.events i)) [ inl w ↦ w.1 | inr w ↦ absurd (w.0 refl) ] in
        subst (λ (z : Option Logged). State n nodes (deliver_logged (keeps b i ws) z) (tell_got (tell_saved nodes g i) id)) (sym lf)
        (got_state n nodes (keeps b i ws) (tell_saved nodes g i) saved_state x p.1 p.3 here none
        (λ _. record { top = saved h.clock (map (g.words i) (range_with_len 0 nodes)); rest = h.events i; is = top; saves_top = refl }) id p.2)

pub answer_state : (n nodes : ℕ) (b : Book) (h : Told) → State n nodes b h → (i rank word : ℕ) → answer_refusal b i rank word ≡ None →
    State n nodes (answered b i rank word (at b i).round) (tell_noted nodes (tell_word h i rank word) i (answered_tells b i rank word (at b i).round))
answer_state n nodes b h st i rank word ok =
    let p1 = passes (ltb i (count b)) refuses.NoCluster _ ok in
    let p2 = passes (ltb rank b.nodes) refuses.NoRank _ p1.1 in
    let p3 = escapes (is_some b.restart) refuses.RestartOpen _ p2.1 in
    let a = ltb-true i (count b) p1.0 in
    let c = ltb-true rank b.nodes p2.0 in
    let d = st.clusters.count in
    let e = st.nodes_is in
    go (at b i).round refl (omega arith) (omega arith) (not_some b.restart p3.0) p3.1
  where
    go : (o : Option Round) → (at b i).round ≡ o → i < n → rank < nodes → b.restart ≡ None → answer_at b i rank word o ≡ None →
        State n nodes (answered b i rank word o) (tell_noted nodes (tell_word h i rank word) i (answered_tells b i rank word o))
    go None e hi hr none q = let z : ◌≡◌ {A = ℕ} 0 1 = cc in absurd (omega arith)
    go (Some r) e hi hr none q =
        let q1 = escapes (is_some (get_or r.answers rank None)) refuses.Answered _ q in
        ways (eqb (missing (noted b r rank word)) 0) refl (not_some (get_or r.answers rank None) q1.0) q1.1
      where
        ways : (t : Bool) → eqb (missing (noted b r rank word)) 0 ≡ t → get_or r.answers rank None ≡ None →
            cond t (from_store (keep_refusal b.store i (suc (number_in b i)) (map or_zero (noted b r rank word)))) None ≡ None →
            State n nodes (cond t (committed b i (map or_zero (noted b r rank word)) r.waiting) (notes b i r rank word))
            (tell_noted nodes (tell_word h i rank word) i (cond t (Committed (suc (number_in b i)) r.waiting) (Missing (missing (noted b r rank word)))))
        ways true f free k =
            commit_state n nodes b h st i rank word r e free hi hr none (eqb-true (missing (noted b r rank word)) 0 f)
            (from_store_none (keep_refusal b.store i (suc (number_in b i)) (map or_zero (noted b r rank word))) k) r.waiting refl
        ways false f free k = notes_state n nodes b h st i rank word r e free hi hr none
