-- The log as a list, and what a delivery does to its receiver.
--
--   message_at  the message at a place of the log
--   heard_from  a cluster that has heard of a sender
use Rattle.std.specs.Prelude.{ℕ, List, None, slice_index_or}
use Rattle.law.specs.declared.Message.{Message}
use Rattle.law.specs.declared.Logged.{Logged}
use Rattle.law.specs.Book.{Cluster, raised}

abbrev pub no_logged : Logged
no_logged = record { message = record { id = 0; from = 0; to = 0; word = 0; number = 0 }; receipt = None }

abbrev pub message_at : List Logged → ℕ → Message
message_at log at = (slice_index_or log at no_logged).message

abbrev pub heard_from : ℕ → ℕ → Cluster → Cluster
heard_from from number c = record { row = raised c.row from number; kept = c.kept; round = c.round }
