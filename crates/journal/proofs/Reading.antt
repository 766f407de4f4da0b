-- The words of a record, read where they stand, are those of the row that it holds.
use Rattle.std.proofs.Common.{◌≡◌, ℕ, ◌+◌, ◌*◌, ◌<◌, ◌≤◌, List, ◌++◌, length, take, drop, Some, None, sym, ap, ◌∙◌, arith}
use Rattle.std.proofs.lemmas.Bool.{cond-true, cond-false, le-leb, lt-leb}
use Rattle.std.proofs.lemmas.List.{drop-take, drop-drop, drop-append-le, take-append-le, take-append-drop, length-drop, length-take-le}
use Rattle.refusal.specs.declared.StoreRefusal.TheVariants.{WordCount}
use Rattle.store.specs.Table.{read_refused}
use Rattle.records.specs.Layout.{size_of}

pub fits_read : (ws : List ℕ) (count room : ℕ) → length ws ≡ count → count ≤ room → read_refused (Some ws) room ≡ None
fits_read ws count room long le = cond-true _ _ _ (le-leb (length ws) room (omega arith))

pub short-read : (ws : List ℕ) (count room : ℕ) → length ws ≡ count → room < count → read_refused (Some ws) room ≡ Some WordCount
short-read ws count room long gt = cond-false _ _ _ (lt-leb (length ws) room (omega arith))

pub words_there : (bytes : List ℕ) (used at count k : ℕ) → at + size_of count ≤ used → used ≤ length bytes → k ≡ 8 * count → take k (drop (at + 7) bytes) ≡ drop 7 (take (size_of count) (drop at (take used bytes)))
words_there bytes used at count k within low e =
    let front = take used bytes in
    let len = length-take-le used bytes low in
    let split : front ++ drop used bytes ≡ bytes = take-append-drop used bytes in
    let start : at + 7 ≤ length front = omega arith in
    let room : 8 * count ≤ length (drop (at + 7) front) = rw length-drop (omega arith) in
    ap (λ n. take n (drop (at + 7) bytes)) e
    ∙ ap (λ bs. take (8 * count) (drop (at + 7) bs)) (sym split)
    ∙ ap (take (8 * count)) (drop-append-le (at + 7) front (drop used bytes) start)
    ∙ take-append-le (8 * count) (drop (at + 7) front) (drop used bytes) room
    ∙ ap (take (8 * count)) (sym (drop-drop 7 at front))
    ∙ sym (drop-take 7 (8 * count) (drop at front))
