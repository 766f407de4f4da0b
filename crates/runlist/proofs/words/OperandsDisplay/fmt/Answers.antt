use Rattle.std.proofs.Common.{ℕ, ◌-◌, ◌^◌, false, List, [], ◌++◌, codes, decimal, sym, ap, ◌∙◌, arith, rules}
use Rattle.std.specs.Fmt.{HasWritten, padded_integral, format_spec, digits}
use Rattle.std.proofs.Output.{has_written_of_eq}
use Rattle.runlist.specs.Words.{operands_text}
use Rattle.runlist.proofs.Hex.{hex_word}
use Rattle.runlist.proofs.words.OperandsDisplay.fmt.Goals as goal

pub returns-in-Answer-clause-writes : goal.returns-in-Answer-clause-writes
returns-in-Answer-clause-writes g c = λ plain ok.
    let before : List ℕ → List ℕ = λ w. codes "answer cluster " ++ (decimal c.in-Answer.cluster ++ (codes " rank " ++ (decimal c.in-Answer.rank ++ (codes " word 0x" ++ w)))) in
    let wrote : HasWritten g.W.Write.write_str_gives c.args.f.now (before (padded_integral (format_spec 32 0 4 16 (2 ^ 64 - 1)) false [] (digits 16 false c.in-Answer.word))) c.write-in-Answer.new.self = search rules in
    has_written_of_eq _ _ _ _ _ (ap before (hex_word c.in-Answer.word (omega arith)) ∙ ap operands_text (sym c.in-Answer.is)) wrote

pub returns-in-Send-clause-writes : goal.returns-in-Send-clause-writes
returns-in-Send-clause-writes g c = λ plain ok.
    let before : List ℕ → List ℕ = λ w. codes "send from " ++ (decimal c.in-Send.«from» ++ (codes " to " ++ (decimal c.in-Send.to ++ (codes " word 0x" ++ w)))) in
    let wrote : HasWritten g.W.Write.write_str_gives c.args.f.now (before (padded_integral (format_spec 32 0 4 16 (2 ^ 64 - 1)) false [] (digits 16 false c.in-Send.word))) c.write-in-Send.new.self = search rules in
    has_written_of_eq _ _ _ _ _ (ap before (hex_word c.in-Send.word (omega arith)) ∙ ap operands_text (sym c.in-Send.is)) wrote
