-- Tickets, and what a fault and a refused call on a ticket tell, as the protocol has them.
--
--   numbered       a ticket's numbers; of_no_restart those of a ticket that belongs to no restart
--   named          the name and count of a ticket, whatever its stage
--   fault_told     what a fault tells: the place and the ticket
--   finish_told    what finish tells, but for the ticket that it hands on
--   finish_ticket  the ticket that finish hands on or back
--   resume_answer  what resume tells; GivenBack that a refusal gives its ticket back
--   stage_refusal  why finish refuses a ticket, or resume
use Rattle.std.specs.Prelude.{◌≡◌, ℕ, Bool, true, false, List, Ok, Err, Option, Result}
use Rattle.refusal.specs.declared.Refusal.{Refusal}
use Rattle.law.specs.Book.{Book, Ticket}
use Rattle.law.specs.Restarts.{finish_refusal, resume_refusal}
use Rattle.federation.specs.declared.tickets.Travelling.{Travelling}
use Rattle.federation.specs.declared.tickets.Settled.{Settled}
use Rattle.federation.specs.declared.tickets.Ticket.{Ticket as Staged}
use Rattle.federation.specs.declared.tickets.Faulted.{Faulted}
use Rattle.federation.specs.declared.tickets.TicketNumbers.{TicketNumbers}
use Rattle.federation.specs.declared.tickets.Returned.{Returned}
use Rattle.federation.specs.declared.told.Resumed.{Resumed}
use Rattle.federation.specs.Collecting.{resumed_of}

abbrev pub numbered : TicketNumbers → Ticket
numbered t = record { name = t.name; count = t.count }

abbrev pub named : {S : Type 0} → Staged S → Ticket
named t = numbered t.numbers

abbrev pub of_no_restart : Ticket
of_no_restart = record { name = 0; count = 0 }

abbrev pub fault_told : Result Faulted Refusal → Result (ℕ × Ticket) Refusal
fault_told (Ok f) = Ok (f.place, named f.ticket)
fault_told (Err why) = Err why

-- what finish tells: the settled ticket is the travelling one, and a refusal gives that back
abbrev pub finish_told : Result (Staged Settled) (Returned Travelling) → Result Unit Refusal
finish_told (Ok t) = Ok tt
finish_told (Err back) = Err back.why

-- the ticket that finish hands on or back
abbrev pub finish_ticket : Result (Staged Settled) (Returned Travelling) → Ticket
finish_ticket (Ok t) = named t
finish_ticket (Err back) = named back.ticket

abbrev pub resume_answer : Result Resumed (Returned Settled) → Result (List ℕ × List ℕ) Refusal
resume_answer (Ok r) = Ok (resumed_of r)
resume_answer (Err back) = Err back.why

abbrev pub GivenBack : Result Resumed (Returned Settled) → Ticket → Type 0
GivenBack (Ok r) t = Unit {0}
GivenBack (Err back) t = named back.ticket ≡ t

-- why a call on a ticket is refused that wants a settled restart, or one that is not
abbrev pub stage_refusal : Bool → Book → Ticket → Option Refusal
stage_refusal true b t = resume_refusal b t
stage_refusal false b t = finish_refusal b t
