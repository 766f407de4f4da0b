-- the word at a place is the one that eight bytes give there
use Rattle.std.proofs.Common.{◌≡◌, ◌+◌, ◌/◌, ◌++◌, length, get_or, drop, set, ap, ◌∙◌, arith}
use lib.Seq.{paste}
use Rattle.std.proofs.lemmas.List.{length-take-le}
use Rattle.std.proofs.lemmas.List.Edits.{paste_more, paste_all}
use Rattle.records.specs.Encode.{words_in}
use Rattle.records.proofs.Words.{length-words_in, word_of_chunk}
use Rattle.records.proofs.read_words.Goals as goal

pub loop-i-preserved : goal.loop-i-preserved
loop-i-preserved c =
    let b = c.args.buffer.now in
    let count = c.args.count in
    let bytes = c.args.bytes.now in
    let ws = words_in count bytes in
    let i = c.loop-i.i in
    let chunks = c.as_chunks.result.0.now in
    let long = length-words_in count bytes in
    let all = length-take-le count chunks (omega (arith, c.as_chunks.ensures.front_len)) in
    let value : c.from_be_bytes.result ≡ get_or ws i 0 =
    c.from_be_bytes.ensures ∙ word_of_chunk count (length bytes / 8) bytes chunks i _ c.as_chunks.ensures.front (omega arith) (omega arith) in
    let place : i ≡ 0 + i = omega arith in
    ap (λ bs. set bs i c.from_be_bytes.result) c.loop-i.invariant
    ∙ ap (λ j. set (paste b 0 ws i) j c.from_be_bytes.result) place
    ∙ ap (λ v. set (paste b 0 ws i) (0 + i) v) value
    ∙ paste_more b 0 ws i 0 (omega arith) (omega arith)

pub returns : goal.returns
returns c =
    let b = c.args.buffer.now in
    let count = c.args.count in
    let ws = words_in count c.args.bytes.now in
    let long = length-words_in count c.args.bytes.now in
    let all = length-take-le count c.as_chunks.result.0.now (omega (arith, c.as_chunks.ensures.front_len)) in
    let end : 0 + c.loop-i.i ≡ length ws = omega arith in
    c.loop-i.invariant ∙ paste_all b 0 ws c.loop-i.i (omega arith) ∙ ap (λ n. ws ++ drop n b) end
