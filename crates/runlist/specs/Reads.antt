-- What the reader's own values mean, in the words of the definition.
--
--   cut_out, cut_to  the operand bytes that the code cut out of a list, and those that it should cut
--   found            what the code found at the front of a list
--   to_come          what a reader has still to give
--   given            what one call of a reader gave: nothing more, a refusal, or a command with its offset
--   Step             a call gives the first of what was to come, and leaves the rest
--   accepted         whether a list is accepted: how many commands it has, or the refusal that ends it
--   Commands         these are the commands of an accepted list, and written again they are the list
--   NotRead          why a list has no commands to give
use Rattle.std.specs.Prelude.{◌≡◌, ℕ, Bool, cond, List, [], ◌∷◌, length, take, drop, Some, None, Ok, Err, Option, Result, nat_le}
use Rattle.std.specs.Borrow.{Bor}
use Rattle.refusal.specs.Answers.{replied}
use Rattle.refusal.specs.declared.Refusal.{Refusal}
use Rattle.refusal.specs.declared.Refusal.TheVariants.{CutShort}
use Rattle.runlist.specs.declared.command.Command.{Command}
use Rattle.runlist.specs.declared.reader.Placed.{Placed}
use Rattle.runlist.specs.declared.reader.Reader.{Reader}
use Rattle.runlist.specs.declared.reader.RefusedAt.{RefusedAt}
use Rattle.runlist.specs.declared.lists.ReadError.{ReadError}
use Rattle.runlist.specs.declared.lists.ReadError.TheVariants.{Refused, Memory}
use Rattle.runlist.specs.Format.{Item, item}
use Rattle.runlist.specs.Laws.{items_of}
use Rattle.runlist.specs.Lists.{Next, refuse, command, Place, Reading, read_on, read_list, ended_by, too_long, write_list}

abbrev pub cut_out : Result (Bor (List ℕ)) Refusal → Result (List ℕ) Refusal
cut_out (Ok bytes) = Ok bytes.now
cut_out (Err why) = Err why

abbrev pub cut_to : ℕ → List ℕ → Result (List ℕ) Refusal
cut_to width rest = cond (nat_le width (length rest)) (Ok (take width rest)) (Err CutShort)

abbrev pub found : Result Command Refusal → Next
found (Ok c) = command (item c)
found (Err why) = refuse why

-- a list that is too long is refused once
abbrev pub refused_once : List ℕ → Reading
refused_once [] = ended_by None
refused_once (b ∷ rest) = ended_by (Some too_long)

-- what is left of a list at a place
abbrev pub left_at : List ℕ → Bool → ℕ → Reading
left_at list opened at =
    cond (nat_le (length list) 65536) (read_on 0 opened at (drop at list)) (refused_once (drop at list))

-- what a reader has still to give
abbrev pub to_come : Reader → Reading
to_come r = left_at r.list.now r.opened r.at

abbrev pub place : Placed → Place
place p = record { offset = p.offset; item = item p.command }

-- the answer of one call, as the definition has it
pub data Given : Type 0 where
  nothing : Given
  refusal : RefusedAt → Given
  placed : Place → Given

abbrev pub given : Option (Result Placed RefusedAt) → Given
given None = nothing
given (Some (Err e)) = refusal e
given (Some (Ok p)) = placed (place p)

-- the first that a reading gives: its first item, else the refusal that ends it, else nothing
abbrev pub first_of : List Place → Option RefusedAt → Given
first_of (p ∷ ps) ended = placed p
first_of [] (Some e) = refusal e
first_of [] None = nothing

abbrev pub rest_of : List Place → Option RefusedAt → Reading
rest_of (p ∷ ps) ended = record { given = ps; ended = ended }
rest_of [] ended = ended_by None

-- what one call gives, and what is left after it
pub record Step (before : Reading) (gave : Given) (after : Reading) : Type 0 where
  pub gives : gave ≡ first_of before.given before.ended
  pub goes : after ≡ rest_of before.given before.ended

-- whether a list is accepted: how many items it has, or the refusal that ends it
abbrev pub accepted : Reading → Result ℕ RefusedAt
accepted r = replied r.ended (length r.given)

-- these are the items of an accepted list, and written again they are the list, byte for byte
pub record Commands (list : List ℕ) (is : List Item) : Type 0 where
  pub unended : (read_list list).ended ≡ None
  pub all : is ≡ items_of (read_list list).given
  pub again : write_list (length list) is ≡ record { wrote = list; ended = None }

-- a list is not read because it is refused, or for want of memory
abbrev pub NotRead : List ℕ → ReadError → Type 0
NotRead list (Refused e) = (read_list list).ended ≡ Some e
NotRead list Memory = Unit {0}
