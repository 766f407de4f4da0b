-- Fault, alert, finish and resume: how far back each cluster goes, alert by alert, and what is left after it.
--
--   fault_refusal  why fault refuses, if it does; fault_tells, fault_book what it tells and leaves
--   alert_refusal, finish_refusal, resume_refusal and their books and answers likewise
--   begun          the restart in which one cluster has failed: it goes back to its newest checkpoint and alerts every other
--   entry_at       the entry of one cluster for another at its present place
--   called_to      the checkpoint to which an alert calls a cluster back, if it does
--   carry          the restart after one alert was carried
--   drain          the restart after every waiting alert was carried, the lowest pair of clusters first
--   back           a cluster after it went back to its place
--   undone         a message whose sending is undone at these places
--   again          the ids of undelivered messages to clusters called back, ascending
use Rattle.std.specs.Prelude.{ℕ, zero, suc, ◌+◌, ◌-◌, ◌*◌, Bool, true, false, cond, not, nat_lt, nat_le, List, [], ◌∷◌, ◌++◌, map, length, slice_index_or, take, replicate, is_some, Some, None, filter, Option, Result, ◌==◌, slice_index, slice_set}
use Rattle.refusal.specs.declared.Refusal.{Refusal}
use Rattle.refusal.specs.declared.Refusal.TheVariants as refuses
use Rattle.store.specs.Table.{Model, drop_model, both}
use Rattle.law.specs.declared.Logged.{Logged}
use Rattle.law.specs.declared.Checkpoint.{Checkpoint}
use Rattle.law.specs.declared.Alerts.{Alerts}
use Rattle.law.specs.declared.Restart.{Restart}
use Rattle.law.specs.declared.Carried.{Carried}
use Rattle.refusal.specs.Answers.{unless_refused, replied}
use Rattle.law.specs.Book.{Book, Cluster, Ticket, at, count, entry, number, checkpoint_at, row_or, with_clusters, with_cluster, with_log, with_restart, with_restarts, with_store, with_round, nobody, most_clusters, last_number, stays}

-- told to the outside, a cluster that stays has place 0
abbrev pub told : ℕ → ℕ
told place = cond (place == stays) 0 place

abbrev pub place : Restart → ℕ → ℕ
place r i = slice_index r.places i

-- alerts from i to every other of the first n clusters
abbrev pub to_others : ℕ → ℕ → Alerts
to_others n i = record { to = slice_set (replicate n true ++ replicate (most_clusters - n) false) i false }

abbrev pub to_nobody : Alerts
to_nobody = record { to = replicate most_clusters false }

abbrev pub begun : List Cluster → ℕ → Restart
begun cs f =
    record { places = slice_set (replicate most_clusters stays) f (entry (slice_index_or cs f nobody).row f); waiting = slice_set (replicate most_clusters to_nobody) f (to_others (length cs) f); settled = false }

-- rounds at a fault: every open round is dropped
abbrev pub drop_rounds : List Cluster → List Cluster
drop_rounds = map (λ c. with_round c None)

abbrev pub fault_refusal : Book → ℕ → Option Refusal
fault_refusal b f =
    cond (nat_lt f (count b))
    (cond (is_some b.restart) (Some refuses.RestartOpen)
    (cond (nat_le last_number b.restarts) (Some refuses.NumbersSpent) None))
    (Some refuses.NoCluster)

abbrev pub faulted : Book → ℕ → Book
faulted b f =
    with_restart (with_restarts (with_clusters b (drop_rounds b.clusters)) (suc b.restarts)) (Some (begun b.clusters f))

abbrev pub fault_book : Book → ℕ → Book
fault_book b f = unless_refused (fault_refusal b f) b (faulted b f)

-- the ticket of the restart that is open, or was the last
abbrev pub ticket : Book → Ticket
ticket b = record { name = b.name; count = b.restarts }

-- the place of the failed cluster, and the ticket
abbrev pub fault_tells : Book → ℕ → Result (ℕ × Ticket) Refusal
fault_tells b f = replied (fault_refusal b f) (number b f, ticket (faulted b f))

-- j's entry for i at j's present place: in its row, if it stays, else in the checkpoint there
abbrev pub entry_at : List Cluster → Restart → ℕ → ℕ → ℕ
entry_at cs r i j =
    let c = slice_index_or cs j nobody in
    cond (place r j == stays) (entry c.row i) (entry (row_or [] (checkpoint_at c.kept (place r j))) i)

-- the latest of these checkpoints below a place whose entry for i is below s, or else the one found before
abbrev pub latest : ℕ → ℕ → ℕ → List Checkpoint → Option ℕ → Option ℕ
latest i s p [] found = found
latest i s p (c ∷ cs) found =
    latest i s p cs (cond (both (nat_lt c.number p) (nat_lt (entry c.row i) s)) (Some c.number) found)

abbrev pub called_to : List Cluster → Restart → ℕ → ℕ → Option ℕ
called_to cs r i j =
    cond (nat_le (place r i) (entry_at cs r i j)) (latest i (place r i) (place r j) (slice_index_or cs j nobody).kept None) None

abbrev pub waits : Restart → ℕ → ℕ → Bool
waits r i j = slice_index_or (slice_index_or r.waiting i to_nobody).to j false

-- the alert from i to j waits no longer
abbrev pub taken : Restart → ℕ → ℕ → List Alerts
taken r i j = slice_set r.waiting i (record { to = slice_set (slice_index_or r.waiting i to_nobody).to j false })

-- a cluster called back alerts every other
abbrev pub carried : ℕ → Restart → ℕ → ℕ → Option ℕ → Restart
carried n r i j None = record { places = r.places; waiting = taken r i j; settled = r.settled }
carried n r i j (Some p) = record { places = slice_set r.places j p; waiting = slice_set (taken r i j) j (to_others n j); settled = r.settled }

abbrev pub carry : List Cluster → Restart → ℕ → ℕ → Restart
carry cs r i j = carried (length cs) r i j (called_to cs r i j)

-- whether the restart is this one, at this stage
abbrev pub holds : Book → Ticket → Bool
holds b t = both (t.name == b.name) (t.count == b.restarts)

abbrev pub alert_at : Book → Ticket → ℕ → ℕ → Option Restart → Option Refusal
alert_at b t i j None = Some refuses.NoRestart
alert_at b t i j (Some r) =
    cond (waits r i j) (cond (both (holds b t) (not r.settled)) None (Some refuses.WrongTicket)) (Some refuses.NoAlert)

abbrev pub alert_refusal : Book → Ticket → ℕ → ℕ → Option Refusal
alert_refusal b t i j =
    cond (both (nat_lt i (count b)) (nat_lt j (count b)))
    (cond (i == j) (Some refuses.SameCluster) (alert_at b t i j b.restart))
    (Some refuses.NoCluster)

abbrev pub alerted : Book → ℕ → ℕ → Option Restart → Option Restart
alerted b i j None = None
alerted b i j (Some r) = Some (carry b.clusters r i j)

abbrev pub alert_book : Book → Ticket → ℕ → ℕ → Book
alert_book b t i j = unless_refused (alert_refusal b t i j) b (with_restart b (alerted b i j b.restart))

abbrev pub alerted_tells : Book → ℕ → ℕ → Option Restart → Carried
alerted_tells b i j None = record { moved = false; place = 0 }
alerted_tells b i j (Some r) =
    record { moved = is_some (called_to b.clusters r i j); place = told (place (carry b.clusters r i j) j) }

abbrev pub alert_tells : Book → Ticket → ℕ → ℕ → Result Carried Refusal
alert_tells b t i j = replied (alert_refusal b t i j) (alerted_tells b i j b.restart)

-- the lowest place, counted from k, that holds true
abbrev pub first_true : ℕ → List Bool → Option ℕ
first_true k [] = None
first_true k (true ∷ bs) = Some k
first_true k (false ∷ bs) = first_true (suc k) bs

abbrev pub pair_with : ℕ → Option ℕ → Option (ℕ × ℕ) → Option (ℕ × ℕ)
pair_with i (Some j) rest = Some (i, j)
pair_with i None rest = rest

-- the lowest pair of clusters between which an alert waits, the first of them counted from k
abbrev pub first_waiting : ℕ → List Alerts → Option (ℕ × ℕ)
first_waiting k [] = None
first_waiting k (a ∷ rest) = pair_with k (first_true 0 a.to) (first_waiting (suc k) rest)

abbrev pub onward : (Restart → Restart) → List Cluster → Option (ℕ × ℕ) → Restart → Restart
onward go cs None r = r
onward go cs (Some p) r = go (carry cs r p.0 p.1)

abbrev pub drain : ℕ → List Cluster → Restart → Restart
drain zero cs r = r
drain (suc k) cs r = onward (drain k cs) cs (first_waiting 0 r.waiting) r

abbrev pub total : List ℕ → ℕ
total [] = 0
total (x ∷ xs) = x + total xs

abbrev pub trues : List Bool → ℕ
trues [] = 0
trues (true ∷ bs) = suc (trues bs)
trues (false ∷ bs) = trues bs

-- how many alerts wait
abbrev pub alerts_in : List Alerts → ℕ
alerts_in [] = 0
alerts_in (a ∷ rest) = trues a.to + alerts_in rest

-- more steps than the alerts can take: a move lowers a place and adds fewer than nine alerts, and any other alert is one less
abbrev pub enough : Restart → ℕ
enough r = 9 * total r.places + alerts_in r.waiting

abbrev pub drained : List Cluster → Restart → Restart
drained cs r = drain (enough r) cs r

abbrev pub finish_at : Book → Ticket → Option Restart → Option Refusal
finish_at b t None = Some refuses.NoRestart
finish_at b t (Some r) = cond (both (holds b t) (not r.settled)) None (Some refuses.WrongTicket)

abbrev pub finish_refusal : Book → Ticket → Option Refusal
finish_refusal b t = finish_at b t b.restart

abbrev pub settle : Restart → Restart
settle r = record { places = r.places; waiting = r.waiting; settled = true }

abbrev pub finished : List Cluster → Option Restart → Option Restart
finished cs None = None
finished cs (Some r) = Some (settle (drained cs r))

abbrev pub finish_book : Book → Ticket → Book
finish_book b t = unless_refused (finish_refusal b t) b (with_restart b (finished b.clusters b.restart))

abbrev pub finish_tells : Book → Ticket → Result Unit Refusal
finish_tells b t = replied (finish_refusal b t) tt

abbrev pub resume_at : Book → Ticket → Option Restart → Option Refusal
resume_at b t None = Some refuses.NoRestart
resume_at b t (Some r) = cond (both (holds b t) r.settled) None (Some refuses.WrongTicket)

abbrev pub resume_refusal : Book → Ticket → Option Refusal
resume_refusal b t = resume_at b t b.restart

-- the cluster at its place: later checkpoints gone, the row as it was there
abbrev pub back : ℕ → Cluster → Cluster
back p c =
    record { row = cond (p == stays) c.row (row_or c.row (checkpoint_at c.kept p)); kept = filter (λ k. nat_le k.number p) c.kept; round = c.round }

-- the store without the checkpoints of cluster i that pass a test
abbrev pub discard : ℕ → (ℕ → Bool) → List Checkpoint → Model → Model
discard i gone [] m = m
discard i gone (c ∷ cs) m = discard i gone cs (cond (gone c.number) (drop_model m i c.number) m)

-- the first k clusters changed, and the store without the checkpoints that they lose
abbrev pub prune : (ℕ → Cluster → Cluster) → (ℕ → ℕ → Bool) → ℕ → Book → Book
prune change gone zero b = b
prune change gone (suc k) b =
    let c = prune change gone k b in
    with_store (with_cluster c k (change k (at c k))) (discard k (gone k) (at c k).kept c.store)

-- the first k clusters gone back to their places
abbrev pub back_to : List ℕ → ℕ → Book → Book
back_to ps = prune (λ j. back (slice_index ps j)) (λ j n. nat_lt (slice_index ps j) n)

abbrev pub undone : List ℕ → Logged → Bool
undone ps m = nat_le (slice_index ps m.message.from) m.message.number

abbrev pub receipt_left : ℕ → Option ℕ → Option ℕ
receipt_left p None = None
receipt_left p (Some n) = cond (nat_le p n) None (Some n)

-- a receipt number given at or above the receiver's place is cleared
abbrev pub unreceived : List ℕ → Logged → Logged
unreceived ps m = record { message = m.message; receipt = receipt_left (slice_index ps m.message.to) m.receipt }

abbrev pub log_back : List ℕ → List Logged → List Logged
log_back ps ms = map (unreceived ps) (filter (λ m. not (undone ps m)) ms)

abbrev pub resumed_to : List ℕ → Book → Book
resumed_to ps b = with_restart (with_log (back_to ps (count b) b) (log_back ps b.log)) None

abbrev pub resumed : Book → Option Restart → Book
resumed b None = b
resumed b (Some r) = resumed_to r.places b

abbrev pub resume_book : Book → Ticket → Book
resume_book b t = unless_refused (resume_refusal b t) b (resumed b b.restart)

abbrev pub to_go_again : List ℕ → Logged → Bool
to_go_again ps m = both (not (slice_index ps m.message.to == stays)) (not (is_some m.receipt))

abbrev pub again : List ℕ → List Logged → List ℕ
again ps ms = map (λ m. m.message.id) (filter (to_go_again ps) ms)

abbrev pub tells_places : ℕ → List ℕ → List ℕ
tells_places n ps = map told (take n ps)

abbrev pub resumed_tells : Book → Option Restart → List ℕ × List ℕ
resumed_tells b None = ([], [])
resumed_tells b (Some r) = (tells_places (count b) r.places, again r.places (log_back r.places b.log))

-- every place, and the ids that go again
abbrev pub resume_tells : Book → Ticket → Result (List ℕ × List ℕ) Refusal
resume_tells b t = replied (resume_refusal b t) (resumed_tells b b.restart)
