-- Exchanges as the history of the law has them: a call of the protocol with its answer.
--
--   asked       the call of an exchange, as it was passed
--   told        the call and its answer, as the history tells them
--   call_of     the call of the protocol; calls_of those of a list
--   store_part  what the store said, where a refusal is the store's
--   Stepped     one call made, its answer and the book after it as the protocol has them
--   Honest      the answer is the protocol's at the book before the call
use Rattle.std.specs.Prelude.{◌≡◌, ℕ, List, map, Some, None, Ok, Err, Option, Result}
use Rattle.refusal.specs.declared.Refusal.{Refusal}
use Rattle.refusal.specs.declared.Refusal.TheVariants.{UnknownLetter, CutShort, OpenMisplaced, BadOpen, NoCluster, SameCluster, NoRank, ListTooLong, RestartOpen, NoRestart, NotInLog, Delivered, RoundOpen, NoRound, Answered as HasAnswered, LogFull, KeptFull, NumbersSpent, Store as FromStore, NotKept, NoAlert, WrongTicket, NoRoom}
use Rattle.refusal.specs.declared.StoreRefusal.{StoreRefusal}
use Rattle.law.specs.Book.{Book, Ticket}
use Rattle.law.specs.Messages.{Rule}
use Rattle.law.specs.Calls.{Answered, reply}
use Rattle.law.specs.Calls as law
use Rattle.federation.specs.Tickets.{numbered}
use Rattle.federation.specs.Told.{told_list}
use Rattle.federation.specs.Collecting.{resume_told, collect_told}
use Rattle.replay.specs.declared.exchange.Call.{Call}
use Rattle.replay.specs.declared.exchange.Call.TheVariants as call
use Rattle.replay.specs.declared.exchange.Began.{Began}
use Rattle.replay.specs.declared.exchange.Exchange.{Exchange}
use Rattle.replay.specs.declared.exchange.Exchange.TheVariants as exchange

abbrev pub store_part : Refusal → Option StoreRefusal
store_part UnknownLetter = None
store_part CutShort = None
store_part OpenMisplaced = None
store_part BadOpen = None
store_part NoCluster = None
store_part SameCluster = None
store_part NoRank = None
store_part ListTooLong = None
store_part RestartOpen = None
store_part NoRestart = None
store_part NotInLog = None
store_part Delivered = None
store_part RoundOpen = None
store_part NoRound = None
store_part HasAnswered = None
store_part LogFull = None
store_part KeptFull = None
store_part NumbersSpent = None
store_part (FromStore why) = Some why
store_part NotKept = None
store_part NoAlert = None
store_part WrongTicket = None
store_part NoRoom = None

abbrev pub said : Result Unit Refusal → Option StoreRefusal
said (Ok v) = None
said (Err why) = store_part why

abbrev pub began : Result Began Refusal → Result (ℕ × Ticket) Refusal
began (Ok b) = Ok (b.place, numbered b.ticket)
began (Err why) = Err why

abbrev pub asked : Exchange → Call
asked (exchange.Request cluster rank answer) = call.Request cluster rank
asked (exchange.Answer cluster rank word answer) = call.Answer cluster rank word
asked (exchange.Send from to word answer) = call.Send from to word
asked (exchange.Arrive id rank answer) = call.Arrive id rank
asked (exchange.Fault cluster answer) = call.Fault cluster
asked (exchange.Alert ticket from to answer) = call.Alert from to
asked (exchange.Finish ticket answer) = call.Finish
asked (exchange.Resume ticket answer) = call.Resume
asked (exchange.Trial cluster answer) = call.Trial cluster
asked (exchange.Collect answer) = call.Collect
asked (exchange.Read cluster number answer) = call.Read cluster number
asked (exchange.Lose side answer) = call.Lose side
asked (exchange.Rebuild side answer) = call.Rebuild side

abbrev pub told : Exchange → Answered
told (exchange.Request cluster rank answer) = record { call = law.request cluster rank; reply = answer }
told (exchange.Answer cluster rank word answer) = record { call = law.answer cluster rank word; reply = answer }
told (exchange.Send from to word answer) = record { call = law.send from to word; reply = answer }
told (exchange.Arrive id rank answer) = record { call = law.arrive id rank; reply = answer }
told (exchange.Fault cluster answer) = record { call = law.fault cluster; reply = began answer }
told (exchange.Alert ticket from to answer) = record { call = law.alert (numbered ticket) from to; reply = answer }
told (exchange.Finish ticket answer) = record { call = law.finish (numbered ticket); reply = answer }
told (exchange.Resume ticket answer) = record { call = law.resume (numbered ticket); reply = resume_told answer }
told (exchange.Trial cluster answer) = record { call = law.trial cluster; reply = told_list answer }
told (exchange.Collect answer) = record { call = law.collect; reply = collect_told answer }
told (exchange.Read cluster number answer) = record { call = law.read cluster number; reply = told_list answer }
told (exchange.Lose side answer) = record { call = law.lose side (said answer); reply = answer }
told (exchange.Rebuild side answer) = record { call = law.rebuild side (said answer); reply = answer }

abbrev pub call_of : Exchange → law.Call
call_of e = (told e).call

abbrev pub calls_of : List Exchange → List law.Call
calls_of es = map call_of es

abbrev pub Honest : Rule → Book → Exchange → Type 0
Honest says b e = (told e).reply ≡ reply says b (call_of e)

-- one call made: the exchange is of this call, its answer is the protocol's, and so is the book after it
pub record Stepped (says : Rule) (before now : Book) (c : Call) (e : Exchange) : Type 0 where
  pub call : asked e ≡ c
  pub answer : Honest says before e
  pub after : now ≡ law.step says before (call_of e)
