-- A run list: how it is read, when it is accepted, and how commands are written.
--
--   Place           an item with the offset of its letter in the list
--   misplaced       the open command stands anywhere but first, or another command stands first
--   Next, next      what stands at the front of the rest of a list: its end, a refusal, or an item
--   Reading         what a reader gives: the items before the end or the refusal, and the refusal, if one ends it
--   read_on         the rest of a list read, from an offset on
--   read_list       a whole list read
--   bytes           the bytes of an item: its letter, and its operands behind it
--   whole           an item's letter is known, and its operands have the width that it asks for
--   append_refusal  why an item cannot be appended, if it cannot
--   Writing         what was written of some items, and the refusal, if one ended it
--   write_list      items appended, one after another, to an empty list
use Rattle.std.specs.Prelude.{ℕ, zero, suc, ◌+◌, Bool, true, false, cond, List, [], ◌∷◌, ◌++◌, length, take, drop, Some, None, Option, ◌==◌, nat_le, nat_lt}
use Rattle.refusal.specs.declared.Refusal.{Refusal}
use Rattle.refusal.specs.declared.Refusal.TheVariants.{UnknownLetter, CutShort, OpenMisplaced, ListTooLong, NoRoom}
use Rattle.runlist.specs.declared.reader.RefusedAt.{RefusedAt}
use Rattle.runlist.specs.Format.{Item, width_of}

pub record Place : Type 0 where
  pub offset : ℕ
  pub item : Item

-- 79 is the letter O
abbrev pub misplaced : Bool → ℕ → Bool
misplaced true letter = letter == 79
misplaced false letter = cond (letter == 79) false true

pub data Next : Type 0 where
  end : Next
  refuse : (why : Refusal) → Next
  command : (i : Item) → Next

-- the checks of one command in their order: its letter, its length, its place
abbrev pub next_of_width : Option ℕ → Bool → ℕ → List ℕ → Next
next_of_width None opened letter rest = refuse UnknownLetter
next_of_width (Some width) opened letter rest =
    cond (nat_le width (length rest))
    (cond (misplaced opened letter) (refuse OpenMisplaced) (command (record { letter = letter; operands = take width rest })))
    (refuse CutShort)

abbrev pub next : Bool → List ℕ → Next
next opened [] = end
next opened (letter ∷ rest) = next_of_width (width_of letter) opened letter rest

pub record Reading : Type 0 where
  pub given : List Place
  pub ended : Option RefusedAt

abbrev pub after_next : ℕ → Next → (ℕ → Reading) → Reading
after_next at end more = record { given = []; ended = None }
after_next at (refuse why) more = record { given = []; ended = Some (record { why = why; offset = at }) }
after_next at (command i) more =
    record { given = record { offset = at; item = i } ∷ (more (length i.operands)).given; ended = (more (length i.operands)).ended }

-- reads on at an offset; skip counts the operand bytes of the last item that are still to pass over
abbrev pub read_on : (skip : ℕ) (opened : Bool) (at : ℕ) → List ℕ → Reading
read_on skip opened at [] = record { given = []; ended = None }
read_on (suc skip) opened at (b ∷ rest) = read_on skip opened (suc at) rest
read_on zero opened at (b ∷ rest) = after_next at (next opened (b ∷ rest)) (λ skip. read_on skip true (suc at) rest)

-- a reading that gives nothing, ended by a refusal or not
abbrev pub ended_by : Option RefusedAt → Reading
ended_by e = record { given = []; ended = e }

abbrev pub too_long : RefusedAt
too_long = record { why = ListTooLong; offset = 0 }

-- a list holds at most 65,536 bytes
abbrev pub read_list : List ℕ → Reading
read_list list = cond (nat_le (length list) 65536) (read_on 0 false 0 list) (ended_by (Some too_long))

abbrev pub bytes : Item → List ℕ
bytes i = i.letter ∷ i.operands

-- the letter is known and the operands have its width
abbrev pub has_width : Option ℕ → ℕ → Bool
has_width None count = false
has_width (Some width) count = width == count

abbrev pub whole : Item → Bool
whole i = has_width (width_of i.letter) (length i.operands)

-- an item behind len bytes, in a buffer with room for so many: over 65,536 bytes, operands of the wrong width,
-- open not first or again, no room, in this order
abbrev pub append_refusal : (room len : ℕ) → Item → Option Refusal
append_refusal room len i =
    cond (nat_le (len + length (bytes i)) 65536)
    (cond (whole i)
    (cond (misplaced (nat_lt 0 len) i.letter) (Some OpenMisplaced)
    (cond (nat_le (len + length (bytes i)) room) None (Some NoRoom)))
    (Some CutShort))
    (Some ListTooLong)

-- some bytes in the place of those that stood in a buffer from an offset on
abbrev pub overwritten : List ℕ → ℕ → List ℕ → List ℕ
overwritten buffer at new = take at buffer ++ new ++ drop (at + length new) buffer

pub record Writing : Type 0 where
  pub wrote : List ℕ
  pub ended : Option RefusedAt

abbrev pub after_append : ℕ → Option Refusal → List ℕ → Writing → Writing
after_append len (Some why) new more = record { wrote = []; ended = Some (record { why = why; offset = len }) }
after_append len None new more = record { wrote = new ++ more.wrote; ended = more.ended }

-- items appended one after another behind len bytes, up to the first that is refused
abbrev pub write_on : (room len : ℕ) → List Item → Writing
write_on room len [] = record { wrote = []; ended = None }
write_on room len (i ∷ is) =
    after_append len (append_refusal room len i) (bytes i) (write_on room (len + length (bytes i)) is)

abbrev pub write_list : ℕ → List Item → Writing
write_list room is = write_on room 0 is
