-- Request and answer: a round opens, every node answers with a word, and the last answer commits the checkpoint.
--
--   request_refusal  why request refuses, if it does; request_tells, request_book what it tells and leaves
--   answer_refusal   why answer refuses, if it does; answer_tells, answer_book what it tells and leaves
--   missing          how many nodes have not answered
--   committed        the book after the last answer: the words kept, then the checkpoint with the row as it was, then the delivery
use Rattle.std.specs.Prelude.{ℕ, suc, cond, List, [], ◌∷◌, ◌++◌, map, take, set, is_some, Some, None, Option, Result, ◌==◌, nat_lt, slice_index_or, slice_set}
use Rattle.refusal.specs.declared.Refusal.{Refusal}
use Rattle.refusal.specs.declared.Refusal.TheVariants as refuses
use Rattle.refusal.specs.declared.StoreRefusal.{StoreRefusal}
use Rattle.store.specs.Table.{keep_refusal, keep_model}
use Rattle.law.specs.declared.Logged.{Logged}
use Rattle.law.specs.declared.Round.{Round}
use Rattle.law.specs.declared.Noted.{Noted}
use Rattle.law.specs.declared.Noted.TheVariants.{Missing, Committed}
use Rattle.refusal.specs.Answers.{unless_refused, replied}
use Rattle.law.specs.Book.{Book, Cluster, at, count, entry, number, logged, or_zero, with_cluster, with_store, with_round}
use Rattle.law.specs.Messages.{round_refusal, new_round, deliver}

-- a round is open: nothing stands in the way; else it has to open
abbrev pub request_at : Book → ℕ → Option Round → Option Refusal
request_at b i (Some r) = None
request_at b i None = round_refusal b i

abbrev pub request_refusal : Book → ℕ → ℕ → Option Refusal
request_refusal b i rank =
    cond (nat_lt i (count b))
    (cond (nat_lt rank b.nodes)
    (cond (is_some b.restart) (Some refuses.RestartOpen) (request_at b i (at b i).round))
    (Some refuses.NoRank))
    (Some refuses.NoCluster)

-- a lower rank takes an open round over, and every answer is cleared; the waiting message stays
abbrev pub requested : ℕ → Option Round → Round
requested rank None = new_round rank None
requested rank (Some r) = cond (nat_lt rank r.initiator) (new_round rank r.waiting) r

abbrev pub request_book : Book → ℕ → ℕ → Book
request_book b i rank =
    unless_refused (request_refusal b i rank) b
    (with_cluster b i (with_round (at b i) (Some (requested rank (at b i).round))))

-- the initiator that holds
abbrev pub request_tells : Book → ℕ → ℕ → Result ℕ Refusal
request_tells b i rank = replied (request_refusal b i rank) (requested rank (at b i).round).initiator

abbrev pub missing : List (Option ℕ) → ℕ
missing [] = 0
missing (None ∷ ws) = suc (missing ws)
missing (Some w ∷ ws) = missing ws

-- the answers of the nodes, with this one noted
abbrev pub noted : Book → Round → ℕ → ℕ → List (Option ℕ)
noted b r rank word = take b.nodes (slice_set r.answers rank (Some word))

abbrev pub from_store : Option StoreRefusal → Option Refusal
from_store (Some why) = Some (refuses.Store why)
from_store None = None

-- the last answer has the store keep the words
abbrev pub answer_keeps : Book → ℕ → List (Option ℕ) → Option Refusal
answer_keeps b i ws = cond (missing ws == 0) (from_store (keep_refusal b.store i (suc (number b i)) (map or_zero ws))) None

abbrev pub answer_at : Book → ℕ → ℕ → ℕ → Option Round → Option Refusal
answer_at b i rank word None = Some refuses.NoRound
answer_at b i rank word (Some r) =
    cond (is_some (slice_index_or r.answers rank None)) (Some refuses.Answered) (answer_keeps b i (noted b r rank word))

abbrev pub answer_refusal : Book → ℕ → ℕ → ℕ → Option Refusal
answer_refusal b i rank word =
    cond (nat_lt i (count b))
    (cond (nat_lt rank b.nodes)
    (cond (is_some b.restart) (Some refuses.RestartOpen) (answer_at b i rank word (at b i).round))
    (Some refuses.NoRank))
    (Some refuses.NoCluster)

-- a cluster with its next checkpoint: the row as it is, with its own entry the new number
abbrev pub saved : ℕ → Cluster → Cluster
saved i c =
    let row = set c.row i (suc (entry c.row i)) in
    record { row = row; kept = c.kept ++ (record { number = suc (entry c.row i); row = row } ∷ []); round = None }

-- the words are kept under the next number, then the checkpoint is committed
abbrev pub keeps : Book → ℕ → List ℕ → Book
keeps b i ws = with_store (with_cluster b i (saved i (at b i))) (keep_model b.store i (suc (number b i)) ws)

abbrev pub deliver_logged : Book → Option Logged → Book
deliver_logged b None = b
deliver_logged b (Some m) = deliver b m.message

-- the message that waited for the checkpoint, if one did
abbrev pub deliver_waiting : Book → Option ℕ → Book
deliver_waiting b None = b
deliver_waiting b (Some id) = deliver_logged b (logged b.log id)

abbrev pub committed : Book → ℕ → List ℕ → Option ℕ → Book
committed b i ws waiting = deliver_waiting (keeps b i ws) waiting

-- one node's word noted
abbrev pub notes : Book → ℕ → Round → ℕ → ℕ → Book
notes b i r rank word =
    with_cluster b i (with_round (at b i) (Some (record { initiator = r.initiator; answers = slice_set r.answers rank (Some word); waiting = r.waiting })))

abbrev pub answered : Book → ℕ → ℕ → ℕ → Option Round → Book
answered b i rank word None = b
answered b i rank word (Some r) =
    let ws = noted b r rank word in
    cond (missing ws == 0) (committed b i (map or_zero ws) r.waiting) (notes b i r rank word)

abbrev pub answered_tells : Book → ℕ → ℕ → ℕ → Option Round → Noted
answered_tells b i rank word None = Missing 0
answered_tells b i rank word (Some r) =
    let ws = noted b r rank word in
    cond (missing ws == 0) (Committed (suc (number b i)) r.waiting) (Missing (missing ws))

abbrev pub answer_book : Book → ℕ → ℕ → ℕ → Book
answer_book b i rank word = unless_refused (answer_refusal b i rank word) b (answered b i rank word (at b i).round)

abbrev pub answer_tells : Book → ℕ → ℕ → ℕ → Result Noted Refusal
answer_tells b i rank word = replied (answer_refusal b i rank word) (answered_tells b i rank word (at b i).round)
