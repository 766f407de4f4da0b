-- The commands of a run list, one by one: letters, widths, and what the operand bytes say.
--
--   Item         a command as a list has it: its letter, and its operand bytes
--   item         the item that a value of the code's `Command` stands for
--   width_of     how many operand bytes follow a letter; none where no command has the letter
--   number       bytes as an unsigned number, high byte first
--   operands_of  the typed operands of a command whose operands have the right width
use Rattle.std.specs.Prelude.{ℕ, ◌+◌, ◌*◌, cond, List, [], ◌∷◌, length, Some, None, Option, ◌==◌, slice_index}
use Rattle.std.specs.List.{between}
use Rattle.runlist.specs.declared.command.Command.{Command}
use Rattle.runlist.specs.declared.command.Command.TheVariants as command
use Rattle.runlist.specs.declared.command.Operands.{Operands}
use Rattle.runlist.specs.declared.command.Operands.TheVariants as typed

pub record Item : Type 0 where
  pub letter : ℕ
  pub operands : List ℕ

-- O Q A S M F L R T G W, in this order
abbrev pub item : Command → Item
item (command.Open b) = record { letter = 79; operands = b.now }
item (command.Request b) = record { letter = 81; operands = b.now }
item (command.Answer b) = record { letter = 65; operands = b.now }
item (command.Send b) = record { letter = 83; operands = b.now }
item (command.Arrive b) = record { letter = 77; operands = b.now }
item (command.Fault b) = record { letter = 70; operands = b.now }
item (command.Alert b) = record { letter = 76; operands = b.now }
item (command.Resume b) = record { letter = 82; operands = b.now }
item (command.Trial b) = record { letter = 84; operands = b.now }
item (command.Collect b) = record { letter = 71; operands = b.now }
item (command.Read b) = record { letter = 87; operands = b.now }

-- the letters in the same order
abbrev pub width_of : ℕ → Option ℕ
width_of letter =
    cond (letter == 79) (Some 4)
    (cond (letter == 81) (Some 2)
    (cond (letter == 65) (Some 10)
    (cond (letter == 83) (Some 10)
    (cond (letter == 77) (Some 5)
    (cond (letter == 70) (Some 1)
    (cond (letter == 76) (Some 2)
    (cond (letter == 82) (Some 0)
    (cond (letter == 84) (Some 1)
    (cond (letter == 71) (Some 0)
    (cond (letter == 87) (Some 5) None))))))))))

-- high byte first: each further byte raises what came before by a factor of 256
abbrev pub number_on : ℕ → List ℕ → ℕ
number_on high [] = high
number_on high (b ∷ bs) = number_on (high * 256 + b) bs

abbrev pub number : List ℕ → ℕ
number bs = number_on 0 bs

-- the value where the operands have the width
abbrev pub of_width : ℕ → List ℕ → Operands → Option Operands
of_width width bs value = cond (length bs == width) (Some value) None

abbrev pub operands_of : Command → Option Operands
operands_of (command.Open b) =
    of_width 4 b.now (typed.Open (slice_index b.now 0) (slice_index b.now 1) (slice_index b.now 2) (slice_index b.now 3))
operands_of (command.Request b) = of_width 2 b.now (typed.Request (slice_index b.now 0) (slice_index b.now 1))
operands_of (command.Answer b) =
    of_width 10 b.now (typed.Answer (slice_index b.now 0) (slice_index b.now 1) (number (between 2 10 b.now)))
operands_of (command.Send b) =
    of_width 10 b.now (typed.Send (slice_index b.now 0) (slice_index b.now 1) (number (between 2 10 b.now)))
operands_of (command.Arrive b) = of_width 5 b.now (typed.Arrive (number (between 0 4 b.now)) (slice_index b.now 4))
operands_of (command.Fault b) = of_width 1 b.now (typed.Fault (slice_index b.now 0))
operands_of (command.Alert b) = of_width 2 b.now (typed.Alert (slice_index b.now 0) (slice_index b.now 1))
operands_of (command.Resume b) = of_width 0 b.now typed.Resume
operands_of (command.Trial b) = of_width 1 b.now (typed.Trial (slice_index b.now 0))
operands_of (command.Collect b) = of_width 0 b.now typed.Collect
operands_of (command.Read b) = of_width 5 b.now (typed.Read (slice_index b.now 0) (number (between 1 5 b.now)))
