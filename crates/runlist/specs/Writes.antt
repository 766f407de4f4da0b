-- The writer's answers, in the words of the definition.
--
--   written  the answer of a whole list written: how many bytes, or the refusal and how many bytes stand before it
use Rattle.std.specs.Prelude.{ℕ, length, Result}
use Rattle.refusal.specs.Answers.{replied}
use Rattle.runlist.specs.declared.reader.RefusedAt.{RefusedAt}
use Rattle.runlist.specs.Lists.{Writing}

abbrev pub written : Writing → Result ℕ RefusedAt
written w = replied w.ended (length w.wrote)
