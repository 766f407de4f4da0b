-- What a call tells, where the code tells it as a vector of fixed capacity.
--
--   told_list  the answer with what its vector holds
--   held       the words that the store holds, or its refusal
use Rattle.std.specs.Prelude.{ℕ, List, Ok, Err, Option, Result}
use Rattle.arrayvec.specs.ArrayVec.{ArrayVec}
use Rattle.refusal.specs.declared.Refusal.{Refusal}
use Rattle.refusal.specs.Answers.{replied}
use Rattle.law.specs.Storing.{held_by, words_held}

abbrev pub told_list : {T : Type 0} → Result (ArrayVec T) Refusal → Result (List T) Refusal
told_list (Ok list) = Ok list.items
told_list (Err why) = Err why

abbrev pub held : Option (List ℕ) → Result (List ℕ) Refusal
held o = replied (held_by o) (words_held o)
