-- What two stores mean as one.
--
--   side_of     the side with a number, if there is one
--   number_of   the number of a side
--   out_number  the side that is out, counted from 1, and 0 where none is
--   standing    the table of a side that is not out
--   pair_model  that table, the smaller capacity, and the first side that has it
--   pair_formed that it is formed where both sides are, and its table is short enough for both
--   Together    both sides hold the same rows, or the side that is out holds none
use Rattle.std.specs.Prelude.{◌≡◌, ℕ, ◌≤◌, min, length, cond, List, [], Some, None, Ok, Err, Option, Result, ◌==◌, nat_le}
use Rattle.refusal.specs.declared.StoreRefusal.{StoreRefusal}
use Rattle.refusal.specs.declared.StoreRefusal.TheVariants.{NoSide}
use Rattle.store.specs.Table.{TableRow, Model, limited}
use Rattle.store.specs.Formed.{Formed}
use Rattle.pair.specs.declared.side.Side.{Side}
use Rattle.pair.specs.declared.side.Side.TheVariants.{First, Second}

abbrev pub side_of : ℕ → Result Side StoreRefusal
side_of number = cond (number == 1) (Ok First) (cond (number == 2) (Ok Second) (Err NoSide))

abbrev pub number_of : Side → ℕ
number_of First = 1
number_of Second = 2

abbrev pub out_number : Option Side → ℕ
out_number None = 0
out_number (Some side) = number_of side

abbrev pub standing : {A : Type 0} → Option Side → A → A → A
standing None a b = a
standing (Some First) a b = b
standing (Some Second) a b = a

-- the first side that has the smaller capacity
abbrev pub smaller : ℕ → ℕ → Side
smaller first second = cond (nat_le first second) First Second

abbrev pub pair_model : Option Side → Model → Model → Model
pair_model out a b =
    limited (standing out a.table b.table) (min a.capacity b.capacity) (number_of (smaller a.capacity b.capacity))

pub pair_formed : (out : Option Side) {a b : Model} → Formed a → Formed b → length (standing out a.table b.table) ≤ min a.capacity b.capacity → Formed (pair_model out a b)
pair_formed None a b short = record { short = short; rising = a.rising; sized = a.sized }
pair_formed (Some First) a b short = record { short = short; rising = b.rising; sized = b.sized }
pair_formed (Some Second) a b short = record { short = short; rising = a.rising; sized = a.sized }

-- the rows that have to be equal: those of both sides, or those of the side that is out and none
abbrev pub one_side : Option Side → List TableRow → List TableRow → List TableRow
one_side None a b = a
one_side (Some First) a b = a
one_side (Some Second) a b = b

abbrev pub other_side : Option Side → List TableRow → List TableRow
other_side None b = b
other_side (Some side) b = []

abbrev pub Together : Option Side → List TableRow → List TableRow → Type 0
Together out a b = one_side out a b ≡ other_side out b
