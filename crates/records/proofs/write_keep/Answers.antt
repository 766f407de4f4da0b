-- the parts of a record stand one behind another
use Rattle.std.proofs.Common.{◌≡◌, [], ◌∷◌, ◌++◌, length, take, ap, ◌∙◌, arith}
use Rattle.records.specs.Encode.{be4, words_bytes}
use Rattle.records.proofs.Words.{words_in-bytes}
use Rattle.records.proofs.Moves.{joined_front}
use Rattle.records.proofs.write_keep.Goals as goal

pub returns : goal.returns
returns c =
    let ws = c.args.words.now in
    let number : c.to_be_bytes.result ≡ be4 c.args.key.number = c.to_be_bytes.ensures in
    let long = ap length number in
    let b0 = take c.args.at c.args.bytes.now in
    let b1 = take c.put-at.result c.put-at.new.bytes in
    let b2 = take c.put-at-2.result c.put-at-2.new.bytes in
    let b3 = take c.put-at-3.result c.put-at-3.new.bytes in
    let b4 = take c.put_words.result c.put_words.new.bytes in
    let counted : b4 ≡ b2 ++ (length ws ∷ words_bytes ws) =
    joined_front b2 b3 b4 (length ws ∷ []) (words_bytes ws) c.put_words.ensures.front c.put-at-3.ensures.front in
    let numbered : b4 ≡ b1 ++ (be4 c.args.key.number ++ (length ws ∷ words_bytes ws)) =
    joined_front b1 b2 b4 (be4 c.args.key.number) (length ws ∷ words_bytes ws) counted
    (c.put-at-2.ensures.front ∙ ap (λ part. b1 ++ part) number) in
    record {
      end = omega (arith, c.put-at.ensures.end, c.put-at-2.ensures.end, c.put-at-3.ensures.end, c.put_words.ensures.end);
      front = joined_front b0 b1 b4 (75 ∷ c.args.key.cluster ∷ []) (be4 c.args.key.number ++ (length ws ∷ words_bytes ws)) numbered
          c.put-at.ensures.front;
      reads = λ rest. words_in-bytes ws rest (λ i. (c.type_inv.words i).fits);
    }
