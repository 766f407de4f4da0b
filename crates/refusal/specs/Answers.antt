-- What a call that can be refused answers and leaves, whatever its refusals are.
--
--   unless_refused  what a call leaves: all as it was where it was refused, else what is new
--   replied         the answer of a call: its refusal, or what it tells
use Rattle.std.specs.Prelude.{Some, None, Ok, Err, Option, Result}

abbrev pub unless_refused : {E A : Type 0} → Option E → A → A → A
unless_refused (Some why) was new = was
unless_refused None was new = new

abbrev pub replied : {E A : Type 0} → Option E → A → Result A E
replied (Some why) tells = Err why
replied None tells = Ok tells
