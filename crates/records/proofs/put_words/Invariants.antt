-- words written so far
use Rattle.std.proofs.Common.{◌≡◌, ◌+◌, ◌*◌, ◌++◌, take}
use Rattle.records.specs.Encode.{words_bytes}
use Rattle.records.proofs.put_words.Given as goal

-- the words so far stand behind what was there
abbrev pub invariant-loop-word : goal.invariant-loop-word
invariant-loop-word l =
    (l.end ≡ l.at + 8 * l.word-index)
    × (take l.end l.bytes ≡ take l.at l.initial.bytes ++ words_bytes (take l.word-index l.words))
