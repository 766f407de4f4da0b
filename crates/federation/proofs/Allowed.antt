-- What an accepted call has shown: the cluster exists, and a round that it opens or changes can end.
use Rattle.std.proofs.Common.{◌≡◌, ℕ, ◌<◌, ◌≤◌, Bool, true, false, eqb, ltb, leb, [], length, is_some, Some, None, Ok, Err, vec_items, vec_len, Option, sym, ap, subst, arith}
use Rattle.std.proofs.lemmas.Bool.{ltb-true, ltb-false, leb-false, lt-ltb}
use Rattle.refusal.specs.declared.Refusal.{Refusal}
use Rattle.refusal.specs.declared.Refusal.TheVariants as refuses
use Rattle.law.specs.declared.Round.{Round}
use Rattle.law.specs.Book.{Book as Shown, Cluster as Group, at, count, number, most_kept, most_messages, last_number}
use Rattle.refusal.specs.Answers.{unless_refused, replied}
use Rattle.law.specs.Rounds.{request_refusal, request_at}
use Rattle.store.specs.Table.{both}
use Rattle.store.proofs.Orders.{both_true}
use Rattle.law.specs.Messages.{round_refusal, send_refusal}
use Rattle.law.proofs.State.{passes, escapes}
use Rattle.book.specs.declared.book.Book.{Book}
use Rattle.std.specs.Ordering.{nat_cmp}
use Rattle.ordered.specs.Seek.{ascending}
use Rattle.book.specs.Rules.{can_end, number_of}
use Rattle.book.specs.View.{bare}
use Rattle.book.proofs.Groups.{shown_len, group_at}
use Rattle.book.proofs.Placing.{both_is, read_at}
use Rattle.book.proofs.Ends.{shown-ends}

-- a position that the book shows is one that it has
pub within : (b : Book) (i : ℕ) → i < count (bare b) → i < vec_len b.clusters
within b i h = let l = shown_len b (record { table = []; capacity = 0; full = 0 }) in omega arith

pub few-shown : (b : Book) (i : ℕ) → i < vec_len b.clusters → i < 8
few-shown b i h = let f = b.few in omega arith

-- a round may open here: there is room for its checkpoint, and a number
pub round-ends : (b : Shown) (i : ℕ) → round_refusal b i ≡ None → can_end true (length (at b i).kept) (number b i) ≡ true
round-ends b i t =
    let p = escapes (leb most_kept (length (at b i).kept)) refuses.KeptFull _ t in
    let q = escapes (leb last_number (number b i)) refuses.NumbersSpent None p.1 in
    both_is _ _ (lt-ltb _ _ (leb-false _ _ p.0)) (lt-ltb _ _ (leb-false _ _ q.0))

-- a round is open already, or may open
pub ends_at : (b : Shown) (i : ℕ) (o : Option Round) → can_end (is_some o) (length (at b i).kept) (number b i) ≡ true → request_at b i o ≡ None → can_end true (length (at b i).kept) (number b i) ≡ true
ends_at b i (Some r) ends t = ends
ends_at b i None ends t = round-ends b i t

pub request_allowed : (b : Shown) (i rank : ℕ) → request_refusal b i rank ≡ None → (i < count b) × (request_at b i (at b i).round ≡ None)
request_allowed b i rank t =
    let p = passes (ltb i (count b)) refuses.NoCluster _ t in
    let q = passes (ltb rank b.nodes) refuses.NoRank _ p.1 in
    let r = escapes (is_some b.restart) refuses.RestartOpen (request_at b i (at b i).round) q.1 in
    (ltb-true _ _ p.0, r.1)

pub may_open : (b : Book) (i : ℕ) → i < count (bare b) → request_at (bare b) i (at (bare b) i).round ≡ None → can_end true (length (at (bare b) i).kept) (number (bare b) i) ≡ true
may_open b i h t = ends_at (bare b) i (at (bare b) i).round (shown-ends b i (within b i h)) t

-- an accepted call tells what it has to, and leaves what it has to
pub done : {A : Type 0} (o : Option Refusal) (was new : A) → o ≡ None → new ≡ unless_refused o was new
done o was new e = ap (λ (z : Option Refusal). unless_refused z was new) (sym e)

pub tells : {A : Type 0} (o : Option Refusal) (v : A) → o ≡ None → Ok v ≡ replied o v
tells o v e = ap (λ (z : Option Refusal). replied z v) (sym e)

-- where a round is open there is room for its checkpoint, and a number
pub open_ends : (b : Book) (i : ℕ) → i < vec_len b.clusters → is_some (at (bare b) i).round ≡ true → can_end true (length (at (bare b) i).kept) (number (bare b) i) ≡ true
open_ends b i h o = subst (λ (t : Bool). can_end t (length (at (bare b) i).kept) (number (bare b) i) ≡ true) o (shown-ends b i h)

-- what an accepted send has shown
pub record Sending (b : Shown) (i j : ℕ) : Type 0 where
  pub from : i < count b
  pub to : j < count b
  pub apart : eqb i j ≡ false
  pub free : length b.log < most_messages
  pub numbered : b.next_id ≤ last_number

pub send_allowed : (b : Shown) (i j : ℕ) → send_refusal b i j ≡ None → Sending b i j
send_allowed b i j t =
    let p = passes (both (ltb i (count b)) (ltb j (count b))) refuses.NoCluster _ t in
    let q = escapes (eqb i j) refuses.SameCluster _ p.1 in
    let r = escapes (is_some b.restart) refuses.RestartOpen _ q.1 in
    let s = escapes (is_some (at b i).round) refuses.RoundOpen _ r.1 in
    let u = escapes (leb most_messages (length b.log)) refuses.LogFull _ s.1 in
    let v = escapes (ltb last_number b.next_id) refuses.NumbersSpent None u.1 in
    let both-in = both_true (ltb i (count b)) (ltb j (count b)) p.0 in
    record { from = ltb-true _ _ both-in.0; to = ltb-true _ _ both-in.1; apart = q.0; free = leb-false _ _ u.0; numbered = ltb-false _ _ v.0 }

-- a refused call tells why, and leaves what was
pub refuses_tells : {A : Type 0} (o : Option Refusal) (why : Refusal) (v : A) → o ≡ Some why → Err why ≡ replied o v
refuses_tells o why v e = ap (λ (z : Option Refusal). replied z v) (sym e)

pub refuses_leaves : {A : Type 0} (o : Option Refusal) (why : Refusal) (was new : A) → o ≡ Some why → was ≡ unless_refused o was new
refuses_leaves o why was new e = ap (λ (z : Option Refusal). unless_refused z was new) (sym e)

-- the numbers of the kept checkpoints rise, as the book shows them
pub shown-ascends : (b : Book) (i : ℕ) → i < vec_len b.clusters → ascending nat_cmp number_of (at (bare b) i).kept ≡ true
shown-ascends b i h =
    let len = b.clusters.ok.0 in
    let inside : i < length (vec_items b.clusters) = omega arith in
    let it = read_at (vec_items b.clusters) i inside in
    subst (λ (x : Group). ascending nat_cmp number_of x.kept ≡ true) (group_at (vec_items b.clusters) i it.0 inside it.1) it.0.ascends
