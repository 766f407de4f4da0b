-- The lines of a listing, byte by byte.
--
--   line_of     the line of a command: its offset, then its name and operands
--   verdict_of  the line that says whether a list is accepted
--   again_of    the line that says that a list, written again, is the same
use Rattle.std.specs.Prelude.{ℕ, List, ◌++◌, Some, None, Ok, Err, codes, decimal, Option, Result}
use Rattle.runlist.specs.declared.reader.RefusedAt.{RefusedAt}
use Rattle.runlist.specs.declared.command.Operands.{Operands}
use Rattle.runlist.specs.Words.{operands_text, refused_text}

abbrev pub line_of : ℕ → Option Operands → List ℕ
line_of offset (Some operands) = decimal offset ++ (codes " " ++ operands_text operands)
line_of offset None = decimal offset ++ codes " operands of the wrong width"

abbrev pub verdict_of : Result ℕ RefusedAt → ℕ → List ℕ
verdict_of (Ok count) bytes = codes "accepted: " ++ (decimal count ++ (codes " commands, " ++ (decimal bytes ++ codes " bytes")))
verdict_of (Err e) bytes = refused_text e

abbrev pub again_of : ℕ → List ℕ
again_of bytes = codes "written again: the same " ++ (decimal bytes ++ codes " bytes")
