-- The log as a list: a receipt number written at one place is the protocol's change of the message with that id, and a change
-- that leaves every message as it was sent leaves the order and the addresses.
use Rattle.std.proofs.Common.{◌≡◌, ℕ, zero, suc, ◌<◌, Bool, true, not, ◌&&◌, eqb, ltb, List, [], ◌∷◌, map, length, get_or, set, Some, refl, ap₂, arith}
use Rattle.std.specs.List.{AllByRecursion as All}
use Rattle.std.proofs.lemmas.Bool.{cond-true, cond-false, cond_both, eq-eqb, ne_eqb, ltb-true, eqb-false, not-true, and_parts}
use Rattle.std.specs.Ordering.{nat_cmp, is_lt}
use Rattle.ordered.proofs.Seeking.{below-lt}
use Rattle.ordered.specs.Seek.{ascending, leads}
use Rattle.store.specs.Table.{both}
use Rattle.store.proofs.Orders.{both_true}
use Rattle.law.specs.declared.Message.{Message}
use Rattle.law.specs.declared.Logged.{Logged}
use Rattle.law.specs.Messages.{receive}
use Rattle.book.specs.Rules.{id_of, ids_below, addressed, between, is_between}

-- what a test of two different clusters says
pub record Between (n i j : ℕ) : Type 0 where
  pub from : i < n
  pub to : j < n
  pub apart : i ≡ j → ⊥

pub is_between_lem : (n i j : ℕ) → is_between n i j ≡ true → Between n i j
is_between_lem n i j t =
    let p = both_true (both (ltb i n) (ltb j n)) (not (eqb i j)) t in
    let q = both_true (ltb i n) (ltb j n) p.0 in
    record { from = ltb-true _ _ q.0; to = ltb-true _ _ q.1; apart = eqb-false _ _ (not-true _ p.1) }

pub addressed_at : (n : ℕ) (ms : List Logged) (k : ℕ) (d : Logged) → addressed n ms ≡ true → k < length ms → between n (get_or ms k d) ≡ true
addressed_at n [] k d t h = absurd (omega arith)
addressed_at n (m ∷ ms) zero d t h = (both_true (between n m) (addressed n ms) t).0
addressed_at n (m ∷ ms) (suc k) d t h = addressed_at n ms k d (both_true (between n m) (addressed n ms) t).1 (omega arith)

module _ {X : Type 0} (key : X → ℕ) where
  -- in an ascending list every record behind the first has a larger key
  pub ascending_above : (x : X) (xs : List X) → ascending nat_cmp key (x ∷ xs) ≡ true → All (λ y. key x < key y) xs
  ascending_above x [] up = tt
  ascending_above x (y ∷ ys) up =
      let p = and_parts (leads nat_cmp key x (y ∷ ys)) (ascending nat_cmp key (y ∷ ys)) up in
      let first : key x < key y = below-lt (key x) (key y) p.0 in
      (first, further y ys first (ascending_above y ys p.1))
    where
      further : (y : X) (zs : List X) → key x < key y → All (λ z. key y < key z) zs → All (λ z. key x < key z) zs
      further y [] lt all = tt
      further y (z ∷ zs) lt all = (let h = all.0 in omega arith, further y zs lt all.1)

receive_none : (id n : ℕ) (ms : List Logged) → All (λ m. id < id_of m) ms → map (receive id n) ms ≡ ms
receive_none id n [] all = refl
receive_none id n (m ∷ ms) all =
    ap₂ (λ (x : Logged) (xs : List Logged). x ∷ xs) (cond-false (eqb m.message.id id) _ m (ne_eqb m.message.id id (λ e. let h : id < m.message.id = all.0 in omega arith))) (receive_none id n ms all.1)

-- the message at a place of the log gets its receipt number
pub receive_at : (ms : List Logged) (k n : ℕ) (d : Logged) → ascending nat_cmp id_of ms ≡ true → k < length ms → map (receive (get_or ms k d).message.id n) ms ≡ set ms k (record { message = (get_or ms k d).message; receipt = Some n })
receive_at [] k n d up h = absurd (omega arith)
receive_at (m ∷ ms) zero n d up h =
    ap₂ (λ (x : Logged) (xs : List Logged). x ∷ xs) (cond-true (eqb m.message.id m.message.id) _ m (eq-eqb _ _ refl)) (receive_none m.message.id n ms (ascending_above id_of m ms up))
receive_at (m ∷ ms) (suc k) n d up h =
    let above : m.message.id < (get_or ms k d).message.id = above_at ms k (ascending_above id_of m ms up) (omega arith) in
    ap₂ (λ (x : Logged) (xs : List Logged). x ∷ xs)
    (cond-false (eqb m.message.id (get_or ms k d).message.id) _ m (ne_eqb _ _ (λ e. omega arith)))
    (receive_at ms k n d (and_parts (leads nat_cmp id_of m ms) (ascending nat_cmp id_of ms) up).1 (omega arith))
  where
    above_at : (xs : List Logged) (j : ℕ) → All (λ y. m.message.id < id_of y) xs → j < length xs → m.message.id < (get_or xs j d).message.id
    above_at [] j all l = absurd (omega arith)
    above_at (x ∷ xs) zero all l = all.0
    above_at (x ∷ xs) (suc j) all l = above_at xs j all.1 (omega arith)

-- what leaves every message as it was sent leaves the tests of the log
module _ (f : Logged → Logged) (same : (m : Logged) → (f m).message ≡ m.message) where
  leads_same : (m : Logged) (ms : List Logged) → leads nat_cmp id_of (f m) (map f ms) ≡ leads nat_cmp id_of m ms
  leads_same m [] = refl
  leads_same m (x ∷ ms) = ap₂ (λ (a b : Message). is_lt (nat_cmp a.id b.id)) (same m) (same x)

  pub ascending_same : (ms : List Logged) → ascending nat_cmp id_of (map f ms) ≡ ascending nat_cmp id_of ms
  ascending_same [] = refl
  ascending_same (m ∷ ms) = ap₂ (λ (a b : Bool). a && b) (leads_same m ms) (ascending_same ms)

  pub below_same : (next : ℕ) (ms : List Logged) → ids_below next (map f ms) ≡ ids_below next ms
  below_same next [] = refl
  below_same next (m ∷ ms) = ap₂ (λ (a : Message) (b : Bool). both (ltb a.id next) b) (same m) (below_same next ms)

  pub addressed_same : (n : ℕ) (ms : List Logged) → addressed n (map f ms) ≡ addressed n ms
  addressed_same n [] = refl
  addressed_same n (m ∷ ms) = ap₂ (λ (a : Message) (b : Bool). both (is_between n a.from a.to) b) (same m) (addressed_same n ms)

pub receive_same : (id n : ℕ) (m : Logged) → (receive id n m).message ≡ m.message
receive_same id n m = cond_both (eqb m.message.id id) _ m (λ (x : Logged). x.message ≡ m.message) (λ t. refl) (λ t. refl)
