-- The message that may arrive now, or why it may not, before the rule is asked.
--
--   arrivable                the message in the log, or the refusal
--   force_tells, force_book  what is told and left where the rule forces a checkpoint
--   placed                   the message at a place of the log, where one is told
use Rattle.std.specs.Prelude.{ℕ, suc, cond, List, is_some, Some, None, Ok, Err, Option, Result, nat_lt, slice_index_or}
use Rattle.refusal.specs.declared.Refusal.{Refusal}
use Rattle.refusal.specs.declared.Refusal.TheVariants as refuses
use Rattle.law.specs.declared.Logged.{Logged}
use Rattle.law.specs.declared.Message.{Message}
use Rattle.law.specs.declared.Arrived.{Arrived}
use Rattle.law.specs.declared.Arrived.TheVariants.{Forced}
use Rattle.refusal.specs.Answers.{unless_refused, replied}
use Rattle.law.specs.Book.{Book, at, number, logged}
use Rattle.law.specs.Messages.{round_refusal, open_round}
use Rattle.book.specs.Logs.{no_logged}

abbrev pub arrivable_at : Book → Option Logged → Result Logged Refusal
arrivable_at b None = Err refuses.NotInLog
arrivable_at b (Some m) =
    cond (is_some m.receipt) (Err refuses.Delivered)
    (cond (is_some (at b m.message.to).round) (Err refuses.RoundOpen) (Ok m))

abbrev pub arrivable : Book → ℕ → ℕ → Result Logged Refusal
arrivable b id rank =
    cond (nat_lt rank b.nodes)
    (cond (is_some b.restart) (Err refuses.RestartOpen) (arrivable_at b (logged b.log id)))
    (Err refuses.NoRank)

abbrev pub placed : List Logged → Result ℕ Refusal → Result Logged Refusal
placed log (Ok place) = Ok (slice_index_or log place no_logged)
placed log (Err why) = Err why

abbrev pub force_tells : Book → Message → Result Arrived Refusal
force_tells b m = replied (round_refusal b m.to) (Forced (suc (number b m.to)))

abbrev pub force_book : Book → Message → ℕ → Book
force_book b m rank = unless_refused (round_refusal b m.to) b (open_round b m.to rank (Some m.id))
