-- The open round in which a node may answer, or why it may not, and what its last answer does.
--
--   answerable  the round, or the refusal that comes before the store is asked
--   given       the words of a round in which every node has answered
--   commit_tells, commit_book  what is told and left when the store is asked to keep them
use Rattle.std.specs.Prelude.{ℕ, suc, cond, List, map, take, is_some, Some, None, Ok, Err, Option, Result, nat_lt, slice_index_or}
use Rattle.refusal.specs.declared.Refusal.{Refusal}
use Rattle.refusal.specs.declared.Refusal.TheVariants as refuses
use Rattle.law.specs.declared.Round.{Round}
use Rattle.law.specs.declared.Noted.{Noted}
use Rattle.law.specs.declared.Noted.TheVariants.{Committed}
use Rattle.store.specs.Table.{keep_refusal}
use Rattle.refusal.specs.Answers.{unless_refused, replied}
use Rattle.law.specs.Book.{Book, at, count, number, or_zero}
use Rattle.law.specs.Rounds.{from_store, committed}

abbrev pub unanswered : ℕ → Option Round → Result Round Refusal
unanswered rank None = Err refuses.NoRound
unanswered rank (Some r) = cond (is_some (slice_index_or r.answers rank None)) (Err refuses.Answered) (Ok r)

abbrev pub answerable : Book → ℕ → ℕ → Result Round Refusal
answerable b i rank =
    cond (nat_lt i (count b))
    (cond (nat_lt rank b.nodes)
    (cond (is_some b.restart) (Err refuses.RestartOpen) (unanswered rank (at b i).round))
    (Err refuses.NoRank))
    (Err refuses.NoCluster)

abbrev pub given : Book → Round → List ℕ
given b r = map or_zero (take b.nodes r.answers)

abbrev pub keeping : Book → ℕ → Round → Option Refusal
keeping b i r = from_store (keep_refusal b.store i (suc (number b i)) (given b r))

abbrev pub commit_tells : Book → ℕ → Round → Result Noted Refusal
commit_tells b i r = replied (keeping b i r) (Committed (suc (number b i)) r.waiting)

abbrev pub commit_book : Book → ℕ → Round → Book
commit_book b i r = unless_refused (keeping b i r) b (committed b i (given b r) r.waiting)
