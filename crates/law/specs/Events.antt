-- What a cluster did, event by event, newest first.
--
--   Event   a checkpoint with the words given for it, a send, or a delivery; each with its time, which no other event has
--   Lists   the events of each cluster
--   ◌∈◌     an event of a list; Later: the second of two events of a list comes after the first
--   number  how many checkpoints a list has: the number of the newest
--   heard   the highest number on a delivery from one cluster, 0 if there is none
--   After   an event of a list comes after the checkpoint with this number
--   back    what stands when a cluster goes back to the checkpoint with this number: all, where it has fewer
--   given   the words given for the checkpoint with this number
use Rattle.std.specs.Prelude.{◌≡◌, ℕ, ◌+◌, ◌≤◌, max, cond, ◌⊎◌, List, [], ◌∷◌, ◌==◌, nat_le}
use Rattle.law.specs.declared.Message.{Message}

pub data Event : Type 0 where
  saved : (time : ℕ) (words : List ℕ) → Event
  sent : (time : ℕ) (m : Message) → Event
  got : (time : ℕ) (m : Message) → Event

abbrev pub Lists : Type 0
Lists = ℕ → List Event

abbrev pub ◌∈◌ : Event → List Event → Type 0
◌∈◌ e [] = ⊥
◌∈◌ e (x ∷ L) = (e ≡ x) ⊎ (◌∈◌ e L)

infix 40 ◌∈◌
abbrev pub Later : List Event → Event → Event → Type 0
Later [] a b = ⊥
Later (x ∷ L) a b = ((b ≡ x) × (a ∈ L)) ⊎ Later L a b

abbrev pub saves : Event → ℕ
saves (saved t ws) = 1
saves (sent t m) = 0
saves (got t m) = 0

abbrev pub number : List Event → ℕ
number [] = 0
number (x ∷ L) = saves x + number L

-- the number that an event brings from cluster i
abbrev pub brings : ℕ → Event → ℕ
brings i (saved t ws) = 0
brings i (sent t m) = 0
brings i (got t m) = cond (m.from == i) m.number 0

abbrev pub heard : ℕ → List Event → ℕ
heard i [] = 0
heard i (x ∷ L) = max (brings i x) (heard i L)

abbrev pub After : ℕ → List Event → Event → Type 0
After s [] e = ⊥
After s (x ∷ L) e = ((e ≡ x) × (s ≤ number L)) ⊎ After s L e

abbrev pub back : ℕ → List Event → List Event
back s [] = []
back s (x ∷ L) = cond (nat_le s (number L)) (back s L) (x ∷ L)

abbrev pub words_of : Event → List ℕ
words_of (saved t ws) = ws
words_of (sent t m) = []
words_of (got t m) = []

abbrev pub given : ℕ → List Event → List ℕ
given n [] = []
given n (x ∷ L) = cond (nat_le n (number L)) (given n L) (words_of x)
