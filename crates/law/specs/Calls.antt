-- The calls on an open federation as data: what each tells when it is accepted, and a list of calls made one after another.
--
--   Call      a call with its arguments; lose and rebuild carry what the store says of the side
--   Value     what an accepted call tells
--   Answered  a call with its answer: a refusal, or what it tells
--   reply     the answer of a call on a book; step the book after it
--   run       a list of calls, each with its answer; after the book when all are made
use Rattle.std.specs.Prelude.{ℕ, List, [], ◌∷◌, Option, Result}
use Rattle.refusal.specs.declared.Refusal.{Refusal}
use Rattle.refusal.specs.declared.StoreRefusal.{StoreRefusal}
use Rattle.law.specs.declared.Noted.{Noted}
use Rattle.law.specs.declared.Sent.{Sent}
use Rattle.law.specs.declared.Arrived.{Arrived}
use Rattle.law.specs.declared.Carried.{Carried}
use Rattle.law.specs.Book.{Book, Ticket}
use Rattle.law.specs.Messages.{Rule, send_tells, send_book, arrive_tells, arrive_book}
use Rattle.law.specs.Rounds.{request_tells, request_book, answer_tells, answer_book}
use Rattle.law.specs.Restarts.{fault_tells, fault_book, alert_tells, alert_book, finish_tells, finish_book, resume_tells, resume_book}
use Rattle.law.specs.Trials.{trial_tells, collect_tells, collect_book, Collected}
use Rattle.law.specs.Storing.{read_tells, side_tells}

pub data Call : Type 0 where
  request : (cluster rank : ℕ) → Call
  answer : (cluster rank word : ℕ) → Call
  send : (from to word : ℕ) → Call
  arrive : (id rank : ℕ) → Call
  fault : (cluster : ℕ) → Call
  alert : (t : Ticket) (from to : ℕ) → Call
  finish : (t : Ticket) → Call
  resume : (t : Ticket) → Call
  trial : (cluster : ℕ) → Call
  collect : Call
  read : (cluster number : ℕ) → Call
  lose : (side : ℕ) (says : Option StoreRefusal) → Call
  rebuild : (side : ℕ) (says : Option StoreRefusal) → Call

abbrev pub Value : Call → Type 0
-- the initiator that holds
Value (request i rank) = ℕ
-- nodes missing, or the checkpoint committed and the message delivered with it
Value (answer i rank word) = Noted
-- id and number
Value (send i j word) = Sent
-- the receipt number, or the number to come
Value (arrive id rank) = Arrived
-- the place of the failed cluster, and the ticket
Value (fault f) = ℕ × Ticket
-- whether the cluster was called back, and its place
Value (alert t i j) = Carried
Value (finish t) = Unit
-- every place, 0 for a cluster that stays, and the ids that go again
Value (resume t) = List ℕ × List ℕ
-- every place, 0 for a cluster that stays
Value (trial f) = List ℕ
Value collect = Collected
Value (read i n) = List ℕ
Value (lose side says) = Unit
Value (rebuild side says) = Unit

abbrev pub Reply : Call → Type 0
Reply c = Result (Value c) Refusal

pub record Answered : Type 0 where
  pub call : Call
  pub reply : Reply call

abbrev pub reply : Rule → Book → (c : Call) → Reply c
reply says b (request i rank) = request_tells b i rank
reply says b (answer i rank word) = answer_tells b i rank word
reply says b (send i j word) = send_tells b i j word
reply says b (arrive id rank) = arrive_tells says b id rank
reply says b (fault f) = fault_tells b f
reply says b (alert t i j) = alert_tells b t i j
reply says b (finish t) = finish_tells b t
reply says b (resume t) = resume_tells b t
reply says b (trial f) = trial_tells b f
reply says b collect = collect_tells b
reply says b (read i n) = read_tells b i n
reply says b (lose side why) = side_tells why
reply says b (rebuild side why) = side_tells why

abbrev pub step : Rule → Book → Call → Book
step says b (request i rank) = request_book b i rank
step says b (answer i rank word) = answer_book b i rank word
step says b (send i j word) = send_book b i j word
step says b (arrive id rank) = arrive_book says b id rank
step says b (fault f) = fault_book b f
step says b (alert t i j) = alert_book b t i j
step says b (finish t) = finish_book b t
step says b (resume t) = resume_book b t
step says b (trial f) = b
step says b collect = collect_book b
step says b (read i n) = b
step says b (lose side why) = b
step says b (rebuild side why) = b

abbrev pub run : Rule → List Call → Book → List Answered
run says [] b = []
run says (c ∷ cs) b = record { call = c; reply = reply says b c } ∷ run says cs (step says b c)

abbrev pub after : Rule → List Call → Book → Book
after says [] b = b
after says (c ∷ cs) b = after says cs (step says b c)
