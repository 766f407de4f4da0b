-- The law of lost work: what every list of calls on a new federation leaves, whatever the store and the rule.
--
--   Law                what holds after any calls: of the messages, the table and the alerts; and of each accepted resume
--   Collecting         what a collect drops and leaves
--   Restarted          what holds at an accepted resume, of the history before it and after it
--   Among              one of the elements of a list; times_in how often the log has an id
--   standing           the words of a standing checkpoint from the oldest kept on
--   Unique             no pair of cluster and number stands twice in a table
--   Restarting         what holds while a restart is open
--   carry_then_finish  the calls that carry some alerts, any that wait or not, and then finish
--   LawOfLostWork      the law for all federations and all lists of calls
use Rattle.std.specs.Prelude.{◌≡◌, ℕ, ◌+◌, ◌-◌, ◌*◌, ◌<◌, ◌≤◌, true, false, cond, ◌⊎◌, ◌↔◌, List, [], ◌∷◌, is_some, Some, None, Ok, Option, ◌==◌, nat_le, nat_lt, slice_index}
use Rattle.store.specs.Table.{Model, TableRow, lookup, both}
use Rattle.law.specs.declared.Message.{Message}
use Rattle.law.specs.declared.Logged.{Logged}
use Rattle.law.specs.declared.Restart.{Restart}
use Rattle.law.specs.Book.{Book, Cluster, Ticket, at, checkpoint_at, most_kept}
use Rattle.law.specs.Opening.{open_refusal, open_book}
use Rattle.law.specs.Messages.{Rule, Meaning}
use Rattle.law.specs.Restarts.{place, waits, entry_at, called_to}
use Rattle.law.specs.Storing.{read_tells}
use Rattle.law.specs.Trials.{Collected}
use Rattle.law.specs.Calls.{Call, fault, alert, finish, resume, trial, collect, reply, step, run, after}
use Rattle.law.specs.Events.{Event, Lists, sent, got, ◌∈◌, number, given}
use Rattle.law.specs.Chains.{Reached}
use Rattle.law.specs.History.{Told, new_told, tell, history}

abbrev pub Among : {A : Type 0} → A → List A → Type 0
Among a [] = ⊥
Among a (x ∷ xs) = (a ≡ x) ⊎ Among a xs

abbrev pub times_in : ℕ → List Logged → ℕ
times_in id [] = 0
times_in id (x ∷ log) = cond (x.message.id == id) 1 0 + times_in id log

abbrev pub standing : ℕ → Lists → (ℕ → ℕ) → ℕ → ℕ → Option (List ℕ)
standing n events oldest i k =
    cond (both (nat_lt i n) (both (nat_le (oldest i) k) (nat_le k (number (events i))))) (Some (given k (events i))) None

abbrev pub Unique : List TableRow → Type 0
Unique [] = Unit {0}
Unique (row ∷ rows) = (lookup rows row.cluster row.number ≡ None) × Unique rows

-- alerts between these pairs of clusters, carried on a ticket, then finish
abbrev pub carry_then_finish : Ticket → List (ℕ × ℕ) → List Call
carry_then_finish t [] = finish t ∷ []
carry_then_finish t (p ∷ ps) = alert t p.0 p.1 ∷ carry_then_finish t ps

pub record Restarting (clusters : List Cluster) (r : Restart) : Type 0 where
  -- an alert that has to call a cluster back finds a kept checkpoint for it
  pub found : (i j : ℕ) → waits r i j ≡ true → place r i ≤ entry_at clusters r i j → (p : ℕ) × (called_to clusters r i j ≡ Some p)
  -- finish has carried every alert
  pub ended : r.settled ≡ true → (i j : ℕ) → waits r i j ≡ false

pub record Collecting (n : ℕ) (bounds : List ℕ) (before now : Book) : Type 0 where
  -- no checkpoint below the bound of its cluster is left
  pub below : (i k : ℕ) → i < n → k < slice_index bounds i → lookup now.store.table i k ≡ None
  -- nor a delivered message with a receipt number below the bound of its receiver
  pub gone : (x : Logged) (r : ℕ) → Among x now.log → x.receipt ≡ Some r → slice_index bounds x.message.to ≤ r
  -- every message that is still owed stays
  pub owed : (x : Logged) → Among x before.log → x.receipt ≡ None → Among x now.log

pub record Restarted (before : Told) (places : List ℕ) (now : Told) (book : Book) : Type 0 where
  -- an event that stood at the fault is struck exactly when a chain leads to it from lost work
  pub undone : (j : ℕ) (e : Event) → e ∈ before.at_fault j → ((e ∈ now.events j → ⊥) ↔ Reached before.at_fault before.failed j e)
  -- a cluster called back reads at its place the words given for that checkpoint
  pub words : (j : ℕ) → 1 ≤ slice_index places j → read_tells book j (slice_index places j) ≡ Ok (given (slice_index places j) (before.at_fault j))

pub record Law (n nodes : ℕ) (says : Rule) (h : Told) (book : Book) : Type 0 where
  -- a standing send without a standing delivery is in the log, undelivered, with its word, and its id is there once
  pub again : (i t : ℕ) (m : Message) → sent t m ∈ h.events i → ((u : ℕ) → got u m ∈ h.events m.to → ⊥) → Among (record { message = m; receipt = None }) book.log × (times_in m.id book.log ≡ 1)
  -- a standing delivery is of a message whose sending stands
  pub known : (j u : ℕ) (m : Message) → got u m ∈ h.events j → (t : ℕ) × (sent t m ∈ h.events m.from)
  -- no message has two standing deliveries
  pub once : (j k t u : ℕ) (m m' : Message) → got t m ∈ h.events j → got u m' ∈ h.events k → m.id ≡ m'.id → (j ≡ k) × (t ≡ u)
  -- the store holds exactly the standing checkpoints from the oldest kept on, each with its words
  pub table : (i k : ℕ) → lookup book.store.table i k ≡ standing n h.events h.oldest i k
  pub unique : Unique book.store.table
  -- and these are the checkpoints that the book keeps
  pub kept : (i k : ℕ) → is_some (checkpoint_at (at book i).kept k) ≡ is_some (lookup book.store.table i k)
  -- a restart takes no more alerts than this, each of them finds what it has to, and finish ends them
  pub alerts : h.alerts ≤ (n - 1) * (most_kept * n - 15)
  pub restarting : (r : Restart) → book.restart ≡ Some r → Restarting book.clusters r
  -- a trial leaves the book as it was
  pub trial_leaves : (f : ℕ) → step says book (trial f) ≡ book
  -- and tells the very places to which a fault leads, whatever alerts are carried one by one before finish
  pub trial : (f place : ℕ) (t : Ticket) (places : List ℕ) (alerts : List (ℕ × ℕ)) → reply says book (trial f) ≡ Ok places → reply says book (fault f) ≡ Ok (place, t) →
      (ids : List ℕ) × (reply says (after says (fault f ∷ carry_then_finish t alerts) book) (resume t) ≡ Ok (places, ids))
  -- what a collect drops, and what it leaves
  pub collecting : (v : Collected) → reply says book collect ≡ Ok v → Collecting n v.bounds book (step says book collect)
  -- what an accepted resume does
  pub restarted : (t : Ticket) (places ids : List ℕ) → reply says book (resume t) ≡ Ok (places, ids) → Restarted h places (tell nodes h (resume t) (Ok (places, ids))) (step says book (resume t))

abbrev pub LawOfLostWork : Type 0
LawOfLostWork =
    (name n nodes : ℕ) (store : Model) (says : Rule) → open_refusal n nodes store ≡ None → Meaning says →
    (calls : List Call) →
    Law n nodes says (history nodes (run says calls (open_book name n nodes store)) (new_told nodes)) (after says calls (open_book name n nodes store))
