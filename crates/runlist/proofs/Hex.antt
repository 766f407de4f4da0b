-- A word printed in sixteen hexadecimal digits is its eight bytes, two digits for each.
use Rattle.std.proofs.Common.{◌≡◌, ℕ, zero, suc, ◌+◌, ◌-◌, ◌/◌, ◌%◌, ◌^◌, ◌<◌, false, List, [], ◌∷◌, ◌++◌, length, replicate, sym, refl, ap, ◌∙◌, ⊎_elim, append-nil, arith}
use Rattle.std.specs.Fmt.{digits, digits_onto, digit_glyph, padded_integral, char_count, format_spec}
use Rattle.std.proofs.lemmas.Bool.{cases_lt, cond-true, cond-false, lt-ltb, le-ltb, eq-eqb, ne_eqb}
use Rattle.std.proofs.Math.Nat.{pow-suc}
use Rattle.runlist.specs.Words.{digit_of, hex_of, word_bytes}

-- the last k digits of a number, in front of others
abbrev glyphs : ℕ → ℕ → List ℕ → List ℕ
glyphs zero n acc = acc
glyphs (suc k) n acc = glyphs k (n / 16) (digit_glyph false (n % 16) ∷ acc)

zeros_behind : (k : ℕ) (acc : List ℕ) → replicate k 48 ++ (48 ∷ acc) ≡ 48 ∷ (replicate k 48 ++ acc)
zeros_behind zero acc = refl
zeros_behind (suc k) acc = ap (λ (l : List ℕ). 48 ∷ l) (zeros_behind k acc)

zeros : (k : ℕ) (acc : List ℕ) → replicate k 48 ++ acc ≡ glyphs k 0 acc
zeros zero acc = refl
zeros (suc k) acc = sym (zeros_behind k acc) ∙ zeros k (48 ∷ acc)

module _ (i n : ℕ) (acc : List ℕ) where
  abbrev glyph : ℕ
  glyph = digit_glyph false (n % 16)

  -- the first digit of a number, filled up with zeros
  filled_first : (k : ℕ) → n < 16
      → replicate (suc k + length acc - length (digits_onto (suc i) 16 false n acc)) 48 ++ digits_onto (suc i) 16 false n acc ≡ glyphs (suc k) n acc
  filled_first k low =
      let none : n / 16 ≡ 0 = omega arith in
      let one : digits_onto (suc i) 16 false n acc ≡ glyph ∷ acc = cond-true _ _ _ (eq-eqb (n / 16) 0 none) in
      let count : suc k + length acc - suc (length acc) ≡ k = omega arith in
      ap (λ (ds : List ℕ). replicate (suc k + length acc - length ds) 48 ++ ds) one
      ∙ ap (λ (m : ℕ). replicate m 48 ++ (glyph ∷ acc)) count
      ∙ zeros k (glyph ∷ acc) ∙ ap (λ (q : ℕ). glyphs k q (glyph ∷ acc)) (sym none)

-- digits, filled up with zeros
filled : (k i n : ℕ) (acc : List ℕ) → k < i → n < 16 ^ suc k
    → replicate (suc k + length acc - length (digits_onto i 16 false n acc)) 48 ++ digits_onto i 16 false n acc ≡ glyphs (suc k) n acc
filled k zero n acc h small = absurd (omega arith)
filled zero (suc i) n acc h small = filled_first i n acc 0 (omega arith)
filled (suc j) (suc i) n acc h small = ⊎_elim
    (λ low. filled_first i n acc (suc j) low)
    (λ high.
    let more : digits_onto (suc i) 16 false n acc ≡ digits_onto i 16 false (n / 16) (digit_glyph false (n % 16) ∷ acc) = cond-false _ _ _ (ne_eqb (n / 16) 0 (λ e. omega arith)) in
    let fits : n / 16 < 16 ^ suc j = omega (arith, pow-suc 16 (suc j)) in
    let ds = digits_onto i 16 false (n / 16) (digit_glyph false (n % 16) ∷ acc) in
    let count : suc (suc j) + length acc - length ds ≡ suc j + suc (length acc) - length ds = omega arith in
    ap (λ (l : List ℕ). replicate (suc (suc j) + length acc - length l) 48 ++ l) more
    ∙ ap (λ (m : ℕ). replicate m 48 ++ ds) count
    ∙ filled j i (n / 16) (digit_glyph false (n % 16) ∷ acc) (omega arith) fits)
    (cases_lt n 16)

same_digit : (d : ℕ) → digit_glyph false d ≡ digit_of d
same_digit d = ⊎_elim
    (λ low. let t = lt-ltb d 10 low in cond-true _ _ _ t ∙ sym (cond-true _ _ _ t))
    (λ high.
    let f = le-ltb d 10 high in
    let same : 87 + d ≡ 97 + (d - 10) = omega arith in
    cond-false _ _ _ f ∙ same ∙ sym (cond-false _ _ _ f))
    (cases_lt d 10)

byte_glyphs : (k n : ℕ) (acc : List ℕ) → glyphs (suc (suc k)) n acc ≡ glyphs k (n / 256) (digit_of (n % 256 / 16) ∷ digit_of (n % 256 % 16) ∷ acc)
byte_glyphs k n acc =
    let on : n / 16 / 16 ≡ n / 256 = omega arith in
    let high : n / 16 % 16 ≡ n % 256 / 16 = omega arith in
    let low : n % 16 ≡ n % 256 % 16 = omega arith in
    λ j. glyphs k (on j) ((ap (digit_glyph false) high ∙ same_digit (n % 256 / 16)) j ∷ (ap (digit_glyph false) low ∙ same_digit (n % 256 % 16)) j ∷ acc)

bytes_apart : (w : ℕ)
    → hex_of ((w / 256 / 256 / 256 / 256 / 256 / 256 / 256 % 256) ∷ (w / 256 / 256 / 256 / 256 / 256 / 256 % 256) ∷ (w / 256 / 256 / 256 / 256 / 256 % 256)
    ∷ (w / 256 / 256 / 256 / 256 % 256) ∷ (w / 256 / 256 / 256 % 256) ∷ (w / 256 / 256 % 256) ∷ (w / 256 % 256) ∷ (w % 256) ∷ []) ≡ hex_of (word_bytes w)
bytes_apart w =
    let b : w / 256 / 256 ≡ w / 65536 = omega arith in
    let c : w / 65536 / 256 ≡ w / 16777216 = omega arith in
    let d : w / 16777216 / 256 ≡ w / 4294967296 = omega arith in
    let e : w / 4294967296 / 256 ≡ w / 1099511627776 = omega arith in
    let f : w / 1099511627776 / 256 ≡ w / 281474976710656 = omega arith in
    let g : w / 281474976710656 / 256 ≡ w / 72057594037927936 = omega arith in
    rw (b, c, d, e, f, g)

glyphs_apart : (w : ℕ) → glyphs 16 w [] ≡ hex_of (word_bytes w)
glyphs_apart w =
    byte_glyphs 14 w [] ∙ byte_glyphs 12 _ _ ∙ byte_glyphs 10 _ _ ∙ byte_glyphs 8 _ _
    ∙ byte_glyphs 6 _ _ ∙ byte_glyphs 4 _ _ ∙ byte_glyphs 2 _ _ ∙ byte_glyphs 0 _ _ ∙ bytes_apart w

-- sixteen digits, filled up with zeros
padded_word : (ds : List ℕ) → padded_integral (format_spec 32 0 4 16 (2 ^ 64 - 1)) false [] ds ≡ replicate (16 - length ds) 48 ++ ds
unfolding padded_integral char_count
padded_word ds =
    let count : 16 - length ds - 0 - 0 ≡ 16 - length ds = omega arith in
    λ j. replicate (count j) 48 ++ append-nil ds j

by_digits : (w : ℕ) → digits 16 false w ≡ digits_onto 64 16 false w []
unfolding digits
by_digits w = refl

-- what `{:016x}` writes of a word
pub hex_word : (w : ℕ) → w < 2 ^ 64
    → padded_integral (format_spec 32 0 4 16 (2 ^ 64 - 1)) false [] (digits 16 false w) ≡ hex_of (word_bytes w)
hex_word w small =
    padded_word (digits 16 false w)
    ∙ ap (λ (ds : List ℕ). replicate (16 - length ds) 48 ++ ds) (by_digits w)
    ∙ filled 15 64 w [] (omega arith) small ∙ glyphs_apart w
