-- Send and arrive: a message enters the log with its sender's number, and is delivered now or after the round that it forces.
--
--   Rule            a forcing rule: from the receiver's entry for the sender, the message's number and the count of kept checkpoints
--   Meaning         what every rule has to do: force whenever the message's number is above the entry
--   send_refusal    why send refuses, if it does; send_tells, send_book what it tells and leaves
--   arrive_refusal  why arrive refuses, if it does; arrive_tells, arrive_book what it tells and leaves
--   round_refusal   why a round cannot open at a cluster, if it cannot
--   deliver         the book after a message was delivered to its receiver
use Rattle.store.specs.Table.{both}
use Rattle.std.specs.Prelude.{◌≡◌, ℕ, suc, ◌<◌, Bool, true, cond, [], ◌∷◌, ◌++◌, map, length, replicate, is_some, Some, None, Option, Result, ◌==◌, nat_le, nat_lt}
use Rattle.refusal.specs.declared.Refusal.{Refusal}
use Rattle.refusal.specs.declared.Refusal.TheVariants as refuses
use Rattle.law.specs.declared.Message.{Message}
use Rattle.law.specs.declared.Logged.{Logged}
use Rattle.law.specs.declared.Round.{Round}
use Rattle.law.specs.declared.Sent.{Sent}
use Rattle.law.specs.declared.Arrived.{Arrived}
use Rattle.law.specs.declared.Arrived.TheVariants.{Delivered, Forced}
use Rattle.refusal.specs.Answers.{unless_refused, replied}
use Rattle.law.specs.Book.{Book, at, count, entry, number, raised, logged, with_cluster, with_log, with_next_id, with_round, most_kept, most_messages, most_nodes, last_number}

abbrev pub Rule : Type 0
Rule = ℕ → ℕ → ℕ → Bool

abbrev pub Meaning : Rule → Type 0
Meaning says = (e n k : ℕ) → e < n → says e n k ≡ true

-- the rule N: only on news; the rule E: always
abbrev pub on_news : Rule
on_news e n k = nat_lt e n

abbrev pub always : Rule
always e n k = true

abbrev pub send_refusal : Book → ℕ → ℕ → Option Refusal
send_refusal b i j =
    cond (both (nat_lt i (count b)) (nat_lt j (count b)))
    (cond (i == j) (Some refuses.SameCluster)
    (cond (is_some b.restart) (Some refuses.RestartOpen)
    (cond (is_some (at b i).round) (Some refuses.RoundOpen)
    (cond (nat_le most_messages (length b.log)) (Some refuses.LogFull)
    (cond (nat_lt last_number b.next_id) (Some refuses.NumbersSpent) None)))))
    (Some refuses.NoCluster)

-- a message in the log, undelivered
abbrev pub undelivered : ℕ → ℕ → ℕ → ℕ → ℕ → Logged
undelivered id i j w n = record { message = record { id = id; from = i; to = j; word = w; number = n }; receipt = None }

abbrev pub sent : Book → ℕ → ℕ → ℕ → Book
sent b i j w =
    with_next_id (with_log b (b.log ++ (undelivered b.next_id i j w (number b i) ∷ []))) (suc b.next_id)

abbrev pub send_book : Book → ℕ → ℕ → ℕ → Book
send_book b i j w = unless_refused (send_refusal b i j) b (sent b i j w)

-- the message's id and number
abbrev pub send_tells : Book → ℕ → ℕ → ℕ → Result Sent Refusal
send_tells b i j w = replied (send_refusal b i j) (record { id = b.next_id; number = number b i })

abbrev pub round_refusal : Book → ℕ → Option Refusal
round_refusal b i =
    cond (nat_le most_kept (length (at b i).kept)) (Some refuses.KeptFull)
    (cond (nat_le last_number (number b i)) (Some refuses.NumbersSpent) None)

-- a round with this initiator in which nobody has answered
abbrev pub new_round : ℕ → Option ℕ → Round
new_round rank waiting = record { initiator = rank; answers = replicate most_nodes None; waiting = waiting }

abbrev pub open_round : Book → ℕ → ℕ → Option ℕ → Book
open_round b i rank waiting = with_cluster b i (with_round (at b i) (Some (new_round rank waiting)))

-- the log with this receipt number at the message with this id
abbrev pub receive : ℕ → ℕ → Logged → Logged
receive id n m = cond (m.message.id == id) (record { message = m.message; receipt = Some n }) m

abbrev pub deliver : Book → Message → Book
deliver b m =
    with_log
    (with_cluster b m.to (record { row = raised (at b m.to).row m.from m.number; kept = (at b m.to).kept; round = (at b m.to).round }))
    (map (receive m.id (number b m.to)) b.log)

-- the rule's answer on this message
abbrev pub forces : Rule → Book → Message → Bool
forces says b m = says (entry (at b m.to).row m.from) m.number (length (at b m.to).kept)

abbrev pub arrive_at : Rule → Book → Option Logged → Option Refusal
arrive_at says b None = Some refuses.NotInLog
arrive_at says b (Some m) =
    cond (is_some m.receipt) (Some refuses.Delivered)
    (cond (is_some (at b m.message.to).round) (Some refuses.RoundOpen)
    (cond (forces says b m.message) (round_refusal b m.message.to) None))

abbrev pub arrive_refusal : Rule → Book → ℕ → ℕ → Option Refusal
arrive_refusal says b id rank =
    cond (nat_lt rank b.nodes)
    (cond (is_some b.restart) (Some refuses.RestartOpen) (arrive_at says b (logged b.log id)))
    (Some refuses.NoRank)

abbrev pub arrived : Rule → Book → ℕ → Option Logged → Book
arrived says b rank None = b
arrived says b rank (Some m) =
    cond (forces says b m.message) (open_round b m.message.to rank (Some m.message.id)) (deliver b m.message)

abbrev pub arrived_tells : Rule → Book → Option Logged → Arrived
arrived_tells says b None = Delivered 0
arrived_tells says b (Some m) =
    cond (forces says b m.message) (Forced (suc (number b m.message.to))) (Delivered (number b m.message.to))

abbrev pub arrive_book : Rule → Book → ℕ → ℕ → Book
arrive_book says b id rank = unless_refused (arrive_refusal says b id rank) b (arrived says b rank (logged b.log id))

abbrev pub arrive_tells : Rule → Book → ℕ → ℕ → Result Arrived Refusal
arrive_tells says b id rank = replied (arrive_refusal says b id rank) (arrived_tells says b (logged b.log id))
