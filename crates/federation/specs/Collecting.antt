-- What resume and collect tell, as the protocol has it.
--
--   resumed_of    the places, and the ids that go again
--   resume_told   the answer of a resume
--   collected_of  the bounds, and how many checkpoints and messages are gone
--   collect_told  the answer of a collect
--   spent         what an accepted collect tells of a book
use Rattle.std.specs.Prelude.{ℕ, ◌-◌, List, length, take, Ok, Err, Result}
use Rattle.refusal.specs.declared.Refusal.{Refusal}
use Rattle.law.specs.Book.{Book, count}
use Rattle.law.specs.Trials.{Collected as Spent, bounds, collected, kept_in}
use Rattle.federation.specs.declared.told.Resumed.{Resumed}
use Rattle.federation.specs.declared.told.Collected.{Collected}

abbrev pub resumed_of : Resumed → List ℕ × List ℕ
resumed_of r = (r.places.items, r.ids.items)

abbrev pub resume_told : Result Resumed Refusal → Result (List ℕ × List ℕ) Refusal
resume_told (Ok r) = Ok (resumed_of r)
resume_told (Err why) = Err why

abbrev pub collected_of : Collected → Spent
collected_of c = record { bounds = c.bounds.items; checkpoints = c.checkpoints; messages = c.messages }

abbrev pub collect_told : Result Collected Refusal → Result Spent Refusal
collect_told (Ok c) = Ok (collected_of c)
collect_told (Err why) = Err why

abbrev pub spent : Book → Spent
spent b =
    record { bounds = take (count b) (bounds b); checkpoints = kept_in b.clusters - kept_in (collected b).clusters; messages = length b.log - length (collected b).log }
