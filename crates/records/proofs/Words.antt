-- Words as bytes and back: eight bytes at a time, each the next digit of a number to the base 256.
use Rattle.std.proofs.Common.{◌≡◌, ℕ, zero, suc, ◌+◌, ◌*◌, ◌^◌, ◌<◌, ◌≤◌, List, [], ◌∷◌, ◌++◌, length, get_or, take, drop, w64, sym, refl, ap, ◌∙◌, arith}
use Rattle.std.proofs.lemmas.List.{append-nil, drop-drop, get_or-take}
use Rattle.std.specs.Int.{from_be_bytes}
use Rattle.std.specs.Simd.{first_chunks}
use Rattle.records.specs.Encode.{be8, words_bytes, word, words_in}

pub words_bytes_push : (ws : List ℕ) (w : ℕ) → words_bytes (ws ++ (w ∷ [])) ≡ words_bytes ws ++ be8 w
words_bytes_push [] w = append-nil (be8 w)
words_bytes_push (v ∷ ws) w = ap (λ rest. be8 v ++ rest) (words_bytes_push ws w)

pub length-words_bytes : (ws : List ℕ) → length (words_bytes ws) ≡ 8 * length ws
length-words_bytes [] = refl
length-words_bytes (w ∷ ws) = let rest = length-words_bytes ws in omega arith

-- eight bytes of a number give the number back
pub word-be8 : (w : ℕ) (rest : List ℕ) → w < 2 ^ 64 → word (be8 w ++ rest) ≡ w
word-be8 w rest fits = omega arith

pub words_in-bytes : (ws : List ℕ) (rest : List ℕ) → ((i : ℕ) → get_or ws i 0 < 2 ^ 64) → words_in (length ws) (words_bytes ws ++ rest) ≡ ws
words_in-bytes [] rest fit = refl
words_in-bytes (w ∷ ws) rest fit =
    ap (λ v. v ∷ words_in (length ws) (words_bytes ws ++ rest)) (word-be8 w (words_bytes ws ++ rest) (fit 0))
    ∙ ap (λ vs. w ∷ vs) (words_in-bytes ws rest (λ i. fit (suc i)))

pub length-words_in : (k : ℕ) (bs : List ℕ) → length (words_in k bs) ≡ k
length-words_in zero bs = refl
length-words_in (suc k) bs = ap suc (length-words_in k (drop 8 bs))

pub get_or-words_in : (k : ℕ) (bs : List ℕ) (i : ℕ) → i < k → get_or (words_in k bs) i 0 ≡ word (drop (8 * i) bs)
get_or-words_in zero bs i within = absurd (omega arith)
get_or-words_in (suc k) bs zero within = refl
get_or-words_in (suc k) bs (suc i) within =
    let next : 8 + 8 * i ≡ 8 * suc i = omega arith in
    get_or-words_in k (drop 8 bs) i (omega arith) ∙ ap word (drop-drop (8 * i) 8 bs ∙ ap (λ n. drop n bs) next)

first_chunks_at : (k : ℕ) (bs : List ℕ) (i : ℕ) (d : List ℕ) → i < k → get_or (first_chunks 8 k bs) i d ≡ take 8 (drop (8 * i) bs)
first_chunks_at zero bs i d within = absurd (omega arith)
first_chunks_at (suc k) bs zero d within = refl
first_chunks_at (suc k) bs (suc i) d within =
    let next : 8 + 8 * i ≡ 8 * suc i = omega arith in
    first_chunks_at k (drop 8 bs) i d (omega arith) ∙ ap (take 8) (drop-drop (8 * i) 8 bs ∙ ap (λ n. drop n bs) next)

-- the first eight bytes as a number
word_front : (bs : List ℕ) → from_be_bytes w64 (take 8 bs) ≡ word bs
word_front bs =
    let e0 = get_or-take 8 bs 0 0 (omega arith) in
    let e1 = get_or-take 8 bs 1 0 (omega arith) in
    let e2 = get_or-take 8 bs 2 0 (omega arith) in
    let e3 = get_or-take 8 bs 3 0 (omega arith) in
    let e4 = get_or-take 8 bs 4 0 (omega arith) in
    let e5 = get_or-take 8 bs 5 0 (omega arith) in
    let e6 = get_or-take 8 bs 6 0 (omega arith) in
    let e7 = get_or-take 8 bs 7 0 (omega arith) in
    omega arith

-- the word that a chunk of eight bytes gives
pub word_of_chunk : (count k : ℕ) (bs : List ℕ) (chunks : List (List ℕ)) (i : ℕ) (d : List ℕ) → chunks ≡ first_chunks 8 k bs → count ≤ k → i < count → from_be_bytes w64 (get_or (take count chunks) i d) ≡ get_or (words_in count bs) i 0
word_of_chunk count k bs chunks i d e few within =
    ap (from_be_bytes w64)
    (get_or-take count chunks i d within ∙ ap (λ (xs : List (List ℕ)). get_or xs i d) e ∙ first_chunks_at k bs i d (omega arith))
    ∙ word_front (drop (8 * i) bs) ∙ sym (get_or-words_in count bs i within)
