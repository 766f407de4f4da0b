-- The history of a federation, told from its calls and their answers alone.
--
--   Told      what stands after some calls: the events of each cluster, and what later calls refer to
--   tell      the history after one more call: a refused call alters nothing
--   history   the history after a list of calls with their answers
--   new_told  the history of a new federation: checkpoint 1 with zeros at every cluster
--   put       a function with another value at one place
use Rattle.std.specs.Prelude.{ℕ, suc, Bool, false, cond, List, [], ◌∷◌, map, replicate, Some, None, Ok, Err, Option, ◌==◌, slice_index, slice_index_or}
use Rattle.std.specs.List.{range_with_len}
use Rattle.law.specs.declared.Message.{Message}
use Rattle.law.specs.declared.Noted.{Noted}
use Rattle.law.specs.declared.Noted.TheVariants.{Missing, Committed}
use Rattle.law.specs.declared.Arrived.{Arrived}
use Rattle.law.specs.declared.Arrived.TheVariants.{Delivered, Forced}
use Rattle.law.specs.Calls.{Call, Value, Reply, Answered, request, answer, send, arrive, fault, alert, finish, resume, trial, collect, read, lose, rebuild}
use Rattle.law.specs.Events.{Event, Lists, saved, sent, got, back}

pub record Told : Type 0 where
  -- how many events there were
  pub clock : ℕ
  -- what stands, cluster by cluster
  pub events : Lists
  -- the word of each node's latest accepted answer
  pub words : ℕ → ℕ → ℕ
  -- the message sent under each id
  pub sends : ℕ → Message
  -- the oldest checkpoint that collects have left to each cluster
  pub oldest : ℕ → ℕ
  -- the clusters that failed at the last fault, and what stood then
  pub failed : ℕ → Bool
  pub at_fault : Lists
  -- alerts accepted since the last fault
  pub alerts : ℕ

abbrev pub put : {A : Type 0} → (ℕ → A) → ℕ → A → ℕ → A
put f i a j = cond (j == i) a (f j)

abbrev pub no_message : Message
no_message = record { id = 0; from = 0; to = 0; word = 0; number = 0 }

abbrev pub new_told : ℕ → Told
new_told nodes =
    record { clock = 1; events = λ i. saved 0 (replicate nodes 0) ∷ []; words = λ i rank. 0; sends = λ id. no_message; oldest = λ i. 1; failed = λ i. false; at_fault = λ i. []; alerts = 0 }

-- one event more at a cluster
abbrev pub add : Told → ℕ → Event → Told
add h i e =
    record { clock = suc h.clock; events = put h.events i (e ∷ h.events i); words = h.words; sends = h.sends; oldest = h.oldest; failed = h.failed; at_fault = h.at_fault; alerts = h.alerts }

abbrev pub tell_sent : Told → Message → Told
tell_sent h m =
    record { clock = suc h.clock; events = put h.events m.from (sent h.clock m ∷ h.events m.from); words = h.words; sends = put h.sends m.id m; oldest = h.oldest; failed = h.failed; at_fault = h.at_fault; alerts = h.alerts }

-- the delivery of the message sent under this id, at its receiver
abbrev pub tell_got : Told → ℕ → Told
tell_got h id = add h (h.sends id).to (got h.clock (h.sends id))

abbrev pub tell_word : Told → ℕ → ℕ → ℕ → Told
tell_word h i rank word =
    record { clock = h.clock; events = h.events; words = put h.words i (put (h.words i) rank word); sends = h.sends; oldest = h.oldest; failed = h.failed; at_fault = h.at_fault; alerts = h.alerts }

-- a checkpoint with the word of each node's latest accepted answer
abbrev pub tell_saved : ℕ → Told → ℕ → Told
tell_saved nodes h i = add h i (saved h.clock (map (h.words i) (range_with_len 0 nodes)))

abbrev pub tell_delivered : Told → Option ℕ → Told
tell_delivered h None = h
tell_delivered h (Some id) = tell_got h id

abbrev pub tell_noted : ℕ → Told → ℕ → Noted → Told
tell_noted nodes h i (Missing k) = h
tell_noted nodes h i (Committed k id) = tell_delivered (tell_saved nodes h i) id

abbrev pub tell_arrived : Told → ℕ → Arrived → Told
tell_arrived h id (Delivered n) = tell_got h id
tell_arrived h id (Forced n) = h

abbrev pub tell_fault : Told → ℕ → Told
tell_fault h f =
    record { clock = h.clock; events = h.events; words = h.words; sends = h.sends; oldest = h.oldest; failed = λ i. (i == f); at_fault = h.events; alerts = 0 }

abbrev pub tell_alert : Told → Told
tell_alert h =
    record { clock = h.clock; events = h.events; words = h.words; sends = h.sends; oldest = h.oldest; failed = h.failed; at_fault = h.at_fault; alerts = suc h.alerts }

-- what stands at a cluster of which a restart tells this place: 0 where it stays
abbrev pub strike : ℕ → List Event → List Event
strike place L = cond (place == 0) L (back place L)

abbrev pub tell_places : Told → List ℕ → Told
tell_places h places =
    record { clock = h.clock; events = λ i. strike (slice_index places i) (h.events i); words = h.words; sends = h.sends; oldest = h.oldest; failed = h.failed; at_fault = h.at_fault; alerts = h.alerts }

-- a bound that is told moves the oldest kept checkpoint up to it
abbrev pub tell_bounds : Told → List ℕ → Told
tell_bounds h bounds =
    record { clock = h.clock; events = h.events; words = h.words; sends = h.sends; oldest = λ i. slice_index_or bounds i (h.oldest i); failed = h.failed; at_fault = h.at_fault; alerts = h.alerts }

-- what an accepted call adds
abbrev pub accepted : ℕ → Told → (c : Call) → Value c → Told
accepted nodes h (request i rank) v = h
accepted nodes h (answer i rank word) v = tell_noted nodes (tell_word h i rank word) i v
accepted nodes h (send i j word) v = tell_sent h (record { id = v.id; from = i; to = j; word = word; number = v.number })
accepted nodes h (arrive id rank) v = tell_arrived h id v
accepted nodes h (fault f) v = tell_fault h f
accepted nodes h (alert t i j) v = tell_alert h
accepted nodes h (finish t) v = h
accepted nodes h (resume t) v = tell_places h v.0
accepted nodes h (trial f) v = h
accepted nodes h collect v = tell_bounds h v.bounds
accepted nodes h (read i n) v = h
accepted nodes h (lose side says) v = h
accepted nodes h (rebuild side says) v = h

abbrev pub tell : ℕ → Told → (c : Call) → Reply c → Told
tell nodes h c (Err why) = h
tell nodes h c (Ok v) = accepted nodes h c v

abbrev pub history : ℕ → List Answered → Told → Told
history nodes [] h = h
history nodes (a ∷ rest) h = history nodes rest (tell nodes h a.call a.reply)
