-- The book of a federation: what is known of every cluster, the log of messages, the open restart, and the table of the store.
--
--   Cluster         a row with one entry for each cluster, the kept checkpoints (oldest first), and the open round, if any
--   Book            everything that the unit knows between two calls
--   Ticket          the name of a federation and the count of its restarts: what a fault hands out
--   stays           the place of a cluster that is not called back: above every number
--   at              the cluster with this position
--   number          the number of a cluster's newest checkpoint: its own entry in its row
--   logged          the message with this id in the log
--   checkpoint_at   the kept checkpoint with this number
use Rattle.std.specs.Prelude.{ℕ, cond, List, [], ◌∷◌, length, Some, None, Option, ◌==◌, nat_lt, slice_index, slice_index_or, slice_set}
use Rattle.store.specs.Table.{Model}
use Rattle.law.specs.declared.Logged.{Logged}
use Rattle.law.specs.declared.Checkpoint.{Checkpoint}
use Rattle.law.specs.declared.Round.{Round}
use Rattle.law.specs.declared.Restart.{Restart}

-- a federation has at most 8 clusters: the length of a row
abbrev pub most_clusters : ℕ
most_clusters = 8

-- a cluster has at most 32 nodes: the words of a row in the store
abbrev pub most_nodes : ℕ
most_nodes = 32

-- a cluster keeps at most 16 checkpoints
abbrev pub most_kept : ℕ
most_kept = 16

-- the log holds at most 128 messages
abbrev pub most_messages : ℕ
most_messages = 128

-- numbers of checkpoints, ids and restarts end here
abbrev pub last_number : ℕ
last_number = 1000000

abbrev pub stays : ℕ
stays = 1000001

pub record Cluster : Type 0 where
  pub row : List ℕ
  pub kept : List Checkpoint
  pub round : Option Round

pub record Book : Type 0 where
  pub name : ℕ
  pub nodes : ℕ
  pub clusters : List Cluster
  pub log : List Logged
  pub next_id : ℕ
  pub restarts : ℕ
  pub restart : Option Restart
  pub store : Model

pub record Ticket : Type 0 where
  pub name : ℕ
  pub count : ℕ

abbrev pub or_zero : Option ℕ → ℕ
or_zero (Some n) = n
or_zero None = 0

-- what stands where there is no cluster
abbrev pub nobody : Cluster
nobody = record { row = []; kept = []; round = None }

abbrev pub at : Book → ℕ → Cluster
at b i = slice_index_or b.clusters i nobody

abbrev pub count : Book → ℕ
count b = length b.clusters

abbrev pub entry : List ℕ → ℕ → ℕ
entry row i = slice_index row i

abbrev pub number : Book → ℕ → ℕ
number b i = entry (at b i).row i

-- an entry goes up to a number, and never down
abbrev pub raised : List ℕ → ℕ → ℕ → List ℕ
raised row i n = cond (nat_lt (entry row i) n) (slice_set row i n) row

abbrev pub logged : List Logged → ℕ → Option Logged
logged [] id = None
logged (m ∷ ms) id = cond (m.message.id == id) (Some m) (logged ms id)

abbrev pub checkpoint_at : List Checkpoint → ℕ → Option Checkpoint
checkpoint_at [] n = None
checkpoint_at (c ∷ cs) n = cond (c.number == n) (Some c) (checkpoint_at cs n)

-- the row of a kept checkpoint, or else the row given
abbrev pub row_or : List ℕ → Option Checkpoint → List ℕ
row_or row (Some c) = c.row
row_or row None = row

abbrev pub with_clusters : Book → List Cluster → Book
with_clusters b cs =
    record { name = b.name; nodes = b.nodes; clusters = cs; log = b.log; next_id = b.next_id; restarts = b.restarts; restart = b.restart; store = b.store }

abbrev pub with_cluster : Book → ℕ → Cluster → Book
with_cluster b i c = with_clusters b (slice_set b.clusters i c)

abbrev pub with_log : Book → List Logged → Book
with_log b ms =
    record { name = b.name; nodes = b.nodes; clusters = b.clusters; log = ms; next_id = b.next_id; restarts = b.restarts; restart = b.restart; store = b.store }

abbrev pub with_next_id : Book → ℕ → Book
with_next_id b id =
    record { name = b.name; nodes = b.nodes; clusters = b.clusters; log = b.log; next_id = id; restarts = b.restarts; restart = b.restart; store = b.store }

abbrev pub with_restarts : Book → ℕ → Book
with_restarts b n =
    record { name = b.name; nodes = b.nodes; clusters = b.clusters; log = b.log; next_id = b.next_id; restarts = n; restart = b.restart; store = b.store }

abbrev pub with_restart : Book → Option Restart → Book
with_restart b r =
    record { name = b.name; nodes = b.nodes; clusters = b.clusters; log = b.log; next_id = b.next_id; restarts = b.restarts; restart = r; store = b.store }

abbrev pub with_store : Book → Model → Book
with_store b m =
    record { name = b.name; nodes = b.nodes; clusters = b.clusters; log = b.log; next_id = b.next_id; restarts = b.restarts; restart = b.restart; store = m }

abbrev pub with_round : Cluster → Option Round → Cluster
with_round c r = record { row = c.row; kept = c.kept; round = r }
