-- Eight short runs and three more, each a list of calls with the answers that the definitions give, all in one statement.
--
--   ◌gets◌      a call with the answer that it gets
--   Answers     these calls, made on a federation that begins so, get these very answers
--   WorkedRuns  all the runs
use Rattle.std.specs.Prelude.{◌≡◌, ℕ, zero, suc, ◌+◌, true, false, List, [], ◌∷◌, ◌++◌, map, replicate, Some, None, Ok, Err, Option, Result}
use Rattle.refusal.specs.declared.Refusal.{Refusal}
use Rattle.refusal.specs.declared.Refusal.TheVariants as refuses
use Rattle.refusal.specs.declared.StoreRefusal.TheVariants as store_refuses
use Rattle.store.specs.Table.{Model}
use Rattle.law.specs.declared.Noted.TheVariants.{Missing, Committed}
use Rattle.law.specs.declared.Sent.{Sent}
use Rattle.law.specs.declared.Arrived.TheVariants.{Delivered, Forced}
use Rattle.law.specs.Book.{Book, Ticket}
use Rattle.law.specs.Opening.{open_refusal, open_book}
use Rattle.law.specs.Messages.{Rule, on_news, always}
use Rattle.law.specs.Calls.{Call, Answered, Reply, request, answer, send, arrive, fault, finish, resume, collect, run, alert, trial, read}

infix 80 ◌gets◌
abbrev pub ◌gets◌ : (c : Call) → Reply c → Answered
c gets r = record { call = c; reply = r }

abbrev pub Answers : Rule → Book → List Answered → Type 0
Answers says b script = run says (map (λ a. a.call) script) b ≡ script

abbrev pub sent_as : ℕ → ℕ → Sent
sent_as id n = record { id = id; number = n }

-- an empty store in memory
abbrev pub slots : Model
slots = record { table = []; capacity = 64; full = 0 }

-- clusters of one node, federation 0
abbrev pub opened : ℕ → Book
opened n = open_book 0 n 1 slots

-- the first restart of federation 0
abbrev pub first : Ticket
first = record { name = 0; count = 1 }

-- the second restart of federation 0
abbrev pub second : Ticket
second = record { name = 0; count = 2 }

-- a message forces a checkpoint and is delivered after it
abbrev pub delivered_once : List Answered
delivered_once =
    send 0 1 7 gets Ok (sent_as 1 1) ∷ arrive 1 0 gets Ok (Forced 2) ∷ answer 1 0 9 gets Ok (Committed 2 (Some 1)) ∷ []

-- a message forces a checkpoint, its sender fails, and the message, undone, may not arrive any more
abbrev pub forced_then_undone : List Answered
forced_then_undone =
    delivered_once
    ++ (fault 0 gets Ok (1, first)
    ∷ finish first gets Ok tt
    ∷ resume first gets Ok (1 ∷ 2 ∷ [], [])
    ∷ arrive 1 0 gets Err refuses.NotInLog
    ∷ [])

-- two messages sent at one number, the second arriving first: what the first gets is the rule's
abbrev pub second_forces : Reply (arrive 1 0) → List Answered
second_forces r =
    send 0 1 7 gets Ok (sent_as 1 1)
    ∷ send 0 1 8 gets Ok (sent_as 2 1)
    ∷ arrive 2 0 gets Ok (Forced 2)
    ∷ answer 1 0 9 gets Ok (Committed 2 (Some 2))
    ∷ arrive 1 0 gets r
    ∷ []

-- the receiver fails after a delivery at its newest checkpoint: the message goes again
abbrev pub receiver_fails : List Answered
receiver_fails =
    delivered_once
    ++ (fault 1 gets Ok (2, first)
    ∷ finish first gets Ok tt
    ∷ resume first gets Ok (0 ∷ 2 ∷ [], 1 ∷ [])
    ∷ [])

-- the later message arrives before the earlier one, and the sender fails: only the earlier one goes again
abbrev pub overtaken : List Answered
overtaken =
    send 0 1 7 gets Ok (sent_as 1 1)
    ∷ request 0 0 gets Ok 0
    ∷ answer 0 0 5 gets Ok (Committed 2 None)
    ∷ send 0 1 8 gets Ok (sent_as 2 2)
    ∷ arrive 2 0 gets Ok (Forced 2)
    ∷ answer 1 0 9 gets Ok (Committed 2 (Some 2))
    ∷ arrive 1 0 gets Ok (Delivered 2)
    ∷ fault 0 gets Ok (2, first)
    ∷ finish first gets Ok tt
    ∷ resume first gets Ok (2 ∷ 2 ∷ [], 1 ∷ [])
    ∷ []

-- so many checkpoints of one cluster, the first of them with number n
abbrev pub checkpoints : ℕ → ℕ → ℕ → List Answered
checkpoints i zero n = []
checkpoints i (suc k) n = request i 0 gets Ok 0 ∷ answer i 0 7 gets Ok (Committed n None) ∷ checkpoints i k (n + 1)

-- a cluster without messages keeps sixteen checkpoints and no more, until a collect drops fifteen
abbrev pub sixteen_kept : List Answered
sixteen_kept =
    checkpoints 0 15 2
    ++ (request 0 0 gets Err refuses.KeptFull
    ∷ collect gets Ok (record { bounds = 16 ∷ 1 ∷ []; checkpoints = 15; messages = 0 })
    ∷ request 0 0 gets Ok 0
    ∷ [])

-- why a call was refused, if it was
abbrev pub why_refused : {A : Type 0} → Result A Refusal → Option Refusal
why_refused (Ok v) = None
why_refused (Err why) = Some why

abbrev pub refusals : List Answered → List (Option Refusal)
refusals = map (λ a. why_refused a.reply)

-- the log takes 128 messages and no more: of 129 sends only the last is refused
abbrev pub log_full : Type 0
log_full =
    refusals (run on_news (replicate 129 (send 0 1 7)) (opened 2)) ≡ replicate 128 None ++ (Some refuses.LogFull ∷ [])

abbrev pub checkpoints_each : ℕ → List Answered
checkpoints_each zero = []
checkpoints_each (suc i) = checkpoints i 7 2 ++ checkpoints_each i

-- eight checkpoints of eight clusters fill a store of 64 rows: one row more is refused, and the round stays open
abbrev pub store_full : List Answered
store_full =
    checkpoints_each 8
    ++ (request 3 0 gets Ok 0
    ∷ answer 3 0 7 gets Err (refuses.Store (store_refuses.Full 0))
    ∷ answer 3 0 7 gets Err (refuses.Store (store_refuses.Full 0))
    ∷ [])

-- cluster 0 sends to 1, which then sends to 2, and cluster 0 fails
abbrev pub chain_of_three : List Answered
chain_of_three =
    delivered_once
    ++ (send 1 2 8 gets Ok (sent_as 2 2) ∷ arrive 2 0 gets Ok (Forced 2) ∷ answer 2 0 6 gets Ok (Committed 2 (Some 2))
    ∷ fault 0 gets Ok (1, first) ∷ finish first gets Ok tt ∷ [])

-- alerts carried one by one, on the right ticket and on others; a trial before, a resume after
abbrev pub alerts_one_by_one : List Answered
alerts_one_by_one =
    delivered_once
    ++ (trial 0 gets Ok (1 ∷ 2 ∷ 0 ∷ [])
    ∷ trial 1 gets Ok (0 ∷ 2 ∷ 0 ∷ [])
    ∷ collect gets Ok (record { bounds = 1 ∷ 2 ∷ 1 ∷ []; checkpoints = 1; messages = 0 })
    ∷ fault 0 gets Ok (1, first)
    ∷ fault 1 gets Err refuses.RestartOpen
    ∷ alert first 1 0 gets Err refuses.NoAlert
    ∷ alert second 0 1 gets Err refuses.WrongTicket
    ∷ resume first gets Err refuses.WrongTicket
    ∷ alert first 0 2 gets Ok (record { moved = false; place = 0 })
    ∷ alert first 0 1 gets Ok (record { moved = true; place = 2 })
    ∷ finish first gets Ok tt
    ∷ finish first gets Err refuses.WrongTicket
    ∷ read 1 2 gets Ok (9 ∷ [])
    ∷ resume first gets Ok (1 ∷ 2 ∷ 0 ∷ [], [])
    ∷ resume first gets Err refuses.NoRestart
    ∷ [])

-- a lower rank takes a round of two nodes over: both have to answer again
abbrev pub taken_over : List Answered
taken_over =
    request 0 1 gets Ok 1
    ∷ answer 0 0 5 gets Ok (Missing 1)
    ∷ answer 0 0 5 gets Err refuses.Answered
    ∷ request 0 0 gets Ok 0
    ∷ answer 0 1 6 gets Ok (Missing 1)
    ∷ send 0 1 1 gets Err refuses.RoundOpen
    ∷ answer 0 0 7 gets Ok (Committed 2 None)
    ∷ read 0 2 gets Ok (7 ∷ 6 ∷ [])
    ∷ answer 0 0 7 gets Err refuses.NoRound
    ∷ []

pub record WorkedRuns : Type 0 where
  pub forced_then_undone : Answers on_news (opened 2) forced_then_undone
  pub two_open : open_refusal 2 1 slots ≡ None
  pub eight_open : open_refusal 8 1 slots ≡ None
  pub one_refused : open_refusal 1 1 slots ≡ Some refuses.BadOpen
  pub nine_refused : open_refusal 9 1 slots ≡ Some refuses.BadOpen
  pub second_forces_on_news : Answers on_news (opened 2) (second_forces (Ok (Delivered 2)))
  pub second_forces_always : Answers always (opened 2) (second_forces (Ok (Forced 3)))
  pub receiver_fails : Answers on_news (opened 2) receiver_fails
  pub overtaken : Answers on_news (opened 2) overtaken
  pub sixteen_kept : Answers on_news (opened 2) sixteen_kept
  pub log_full : log_full
  pub store_full : Answers on_news (opened 8) store_full
  -- and three more
  pub chain_of_three : Answers on_news (opened 3) (chain_of_three ++ (resume first gets Ok (1 ∷ 2 ∷ 2 ∷ [], []) ∷ []))
  pub alerts_one_by_one : Answers on_news (opened 3) alerts_one_by_one
  pub taken_over : Answers on_news (open_book 0 2 2 slots) taken_over
