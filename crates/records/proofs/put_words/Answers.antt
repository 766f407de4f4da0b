-- eight bytes more for each word
use Rattle.std.proofs.Common.{◌≡◌, ◌++◌, length, get_or, take, sym, ap, ◌∙◌, arith}
use Rattle.std.proofs.lemmas.List.{append_assoc, take_more}
use Rattle.records.specs.Encode.{be8, words_bytes}
use Rattle.records.proofs.Words.{words_bytes_push}
use Rattle.records.proofs.put_words.Goals as goal

pub loop-word-preserved : goal.loop-word-preserved
loop-word-preserved c =
    let ws = c.args.words.now in
    let i = c.loop-word.word-index in
    let w = get_or ws i 0 in
    let front = take c.args.at c.args.bytes.now in
    let part : c.to_be_bytes.result ≡ be8 w = c.to_be_bytes.ensures in
    let long = ap length part in (
      omega arith,
      c.put-end.ensures.front
          ∙ ap (λ before. before ++ c.to_be_bytes.result) c.loop-word.invariant.1
          ∙ ap (λ bs. (front ++ words_bytes (take i ws)) ++ bs) part
          ∙ append_assoc front (words_bytes (take i ws)) (be8 w)
          ∙ ap (λ bs. front ++ bs) (sym (words_bytes_push (take i ws) w) ∙ ap words_bytes (sym (take_more ws i 0 c.loop-word-test.true))),
    )
