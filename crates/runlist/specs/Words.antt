-- The text of a command's operands and of a refusal at its place, byte by byte.
--
--   digit_of       the hexadecimal digit of a number below 16
--   hex_of         bytes as hexadecimal digits, two for each
--   mark_of        the letter of a rule or a store; a number where the byte is no capital letter
--   word_bytes     the eight bytes of a word, high byte first
--   operands_text  the name of a command and its operands
--   refused_text   a refusal by its number and its words, and where it stands
--   unread_text    why a list has no commands to give
use Rattle.std.specs.Prelude.{ℕ, ◌+◌, ◌-◌, ◌/◌, ◌%◌, cond, List, [], ◌∷◌, ◌++◌, codes, decimal, nat_le, nat_lt}
use Rattle.refusal.specs.Refusals.{number_of, words_of}
use Rattle.runlist.specs.declared.reader.RefusedAt.{RefusedAt}
use Rattle.runlist.specs.declared.lists.ReadError.{ReadError}
use Rattle.runlist.specs.declared.lists.ReadError.TheVariants.{Refused, Memory}
use Rattle.runlist.specs.declared.command.Operands.{Operands}
use Rattle.runlist.specs.declared.command.Operands.TheVariants as typed

abbrev pub digit_of : ℕ → ℕ
digit_of d = cond (nat_lt d 10) (48 + d) (97 + (d - 10))

abbrev pub hex_of : List ℕ → List ℕ
hex_of [] = []
hex_of (b ∷ bs) = digit_of (b / 16) ∷ digit_of (b % 16) ∷ hex_of bs

abbrev pub mark_of : ℕ → List ℕ
mark_of b = cond (nat_le 65 b) (cond (nat_le b 90) (b ∷ []) (decimal b)) (decimal b)

abbrev pub word_bytes : ℕ → List ℕ
word_bytes w =
    (w / 72057594037927936 % 256) ∷ (w / 281474976710656 % 256) ∷ (w / 1099511627776 % 256) ∷ (w / 4294967296 % 256)
    ∷ (w / 16777216 % 256) ∷ (w / 65536 % 256) ∷ (w / 256 % 256) ∷ (w % 256) ∷ []

abbrev pub operands_text : Operands → List ℕ
operands_text (typed.Open clusters nodes rule store) =
    codes "open clusters " ++ (decimal clusters ++ (codes " nodes " ++ (decimal nodes
    ++ (codes " rule " ++ (mark_of rule ++ (codes " store " ++ mark_of store))))))
operands_text (typed.Request cluster rank) = codes "request cluster " ++ (decimal cluster ++ (codes " rank " ++ decimal rank))
operands_text (typed.Answer cluster rank word) =
    codes "answer cluster " ++ (decimal cluster ++ (codes " rank " ++ (decimal rank ++ (codes " word 0x" ++ hex_of (word_bytes word)))))
operands_text (typed.Send from to word) =
    codes "send from " ++ (decimal from ++ (codes " to " ++ (decimal to ++ (codes " word 0x" ++ hex_of (word_bytes word)))))
operands_text (typed.Arrive id rank) = codes "arrive id " ++ (decimal id ++ (codes " rank " ++ decimal rank))
operands_text (typed.Fault cluster) = codes "fault cluster " ++ decimal cluster
operands_text (typed.Alert from to) = codes "alert from " ++ (decimal from ++ (codes " to " ++ decimal to))
operands_text typed.Resume = codes "resume"
operands_text (typed.Trial cluster) = codes "trial cluster " ++ decimal cluster
operands_text typed.Collect = codes "collect"
operands_text (typed.Read cluster number) = codes "read cluster " ++ (decimal cluster ++ (codes " number " ++ decimal number))

abbrev pub refused_text : RefusedAt → List ℕ
refused_text e =
    codes "refused by " ++ (decimal (number_of e.why) ++ (codes " (" ++ (words_of e.why ++ (codes ") at offset " ++ decimal e.offset))))

abbrev pub unread_text : ReadError → List ℕ
unread_text (Refused e) = refused_text e
unread_text Memory = codes "out of memory"
