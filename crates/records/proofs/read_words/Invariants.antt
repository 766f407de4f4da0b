-- words read so far
use Rattle.std.proofs.Common.{◌≡◌}
use lib.Seq.{paste}
use Rattle.records.specs.Encode.{words_in}
use Rattle.records.proofs.read_words.Given as goal

-- the words so far stand in front of what was there
abbrev pub invariant-loop-i : goal.invariant-loop-i
invariant-loop-i l = l.buffer ≡ paste l.initial.buffer 0 (words_in l.count l.bytes) l.i
