-- Records that stand in their order move to the front one by one: the place to write never passes the place to
-- read, so what is still to be moved stands as it stood.
use Rattle.std.proofs.Common.{◌≡◌, ℕ, suc, ◌+◌, ◌-◌, ◌<◌, ◌≤◌, List, [], ◌∷◌, ◌++◌, length, get_or, take, drop, set, sym, refl, ap, ◌∙◌, subst, arith}
use lib.Seq.{paste}
use Rattle.std.specs.List.{copy_within}
use Rattle.std.proofs.lemmas.List.{append_assoc, append-nil, length-take-le, length-drop, drop-drop, drop_more, take_more, get_or_at, set_at}
use Rattle.std.proofs.lemmas.List.Edits.{take-paste, drop-paste, length-paste}
use Rattle.records.specs.declared.Held.{Held}
use Rattle.records.specs.Layout.{size_of, part, parts, moved, relaid, total, Laid}

pub parts_push : (b : List ℕ) (hs : List Held) (h : Held) → parts b (hs ++ (h ∷ [])) ≡ parts b hs ++ part b h
parts_push b [] h = append-nil (part b h)
parts_push b (x ∷ hs) h = ap (λ rest. part b x ++ rest) (parts_push b hs h) ∙ sym (append_assoc (part b x) (parts b hs) (part b h))

pub total_push : (hs : List Held) (h : Held) → total (hs ++ (h ∷ [])) ≡ total hs + size_of h.count
total_push [] h = omega arith
total_push (x ∷ hs) h = let rest = total_push hs h in omega arith

pub relaid_push : (from : ℕ) (hs : List Held) (h : Held) → relaid from (hs ++ (h ∷ [])) ≡ relaid from hs ++ (moved h (from + total hs) ∷ [])
relaid_push from [] h = ap (λ at. moved h at ∷ []) (omega arith)
relaid_push from (x ∷ hs) h =
    let place : from + size_of x.count + total hs ≡ from + (size_of x.count + total hs) = omega arith in
    ap (λ rest. moved x from ∷ rest)
    (relaid_push (from + size_of x.count) hs h ∙ ap (λ at. relaid (from + size_of x.count) hs ++ (moved h at ∷ [])) place)

pub length-relaid : (from : ℕ) (hs : List Held) → length (relaid from hs) ≡ length hs
length-relaid from [] = refl
length-relaid from (x ∷ hs) = ap suc (length-relaid (from + size_of x.count) hs)

pub laid_bound : (from : ℕ) (hs : List Held) (end : ℕ) → Laid from hs end → from ≤ end
laid_bound from [] end l = l
laid_bound from (h ∷ hs) end l = let rest = laid_bound (h.at + size_of h.count) hs end l.1 in omega (arith, l.0)

drop_further : (a b : ℕ) (x y : List ℕ) → a ≤ b → drop a x ≡ drop a y → drop b x ≡ drop b y
drop_further a b x y le e =
    let split : a + (b - a) ≡ b = omega arith in
    ap (λ n. drop n x) (sym split) ∙ sym (drop-drop (b - a) a x) ∙ ap (drop (b - a)) e ∙ drop-drop (b - a) a y
    ∙ ap (λ n. drop n y) split

-- so many records have been moved; from `reach` on the bytes are as they were
pub record Moved (b : List ℕ) (hs : List Held) (i : ℕ) (bytes : List ℕ) (held : List Held) (end : ℕ) : Type 0 where
  pub done : held ≡ relaid 0 (take i hs) ++ drop i hs
  pub size : end ≡ total (take i hs)
  pub front : take end bytes ≡ parts b (take i hs)
  pub long : length bytes ≡ length b
  pub reach : ℕ
  pub low : end ≤ reach
  pub laid : Laid reach (drop i hs) (length b)
  pub rest : drop reach bytes ≡ drop reach b

module _ {b : List ℕ} {hs : List Held} {i : ℕ} {bytes : List ℕ} {held : List Held} {end : ℕ} (m : Moved b hs i bytes held end) (within : i < length hs) (d : Held) where
  front_length : length (relaid 0 (take i hs)) ≡ i
  front_length = length-relaid 0 (take i hs) ∙ length-take-le i hs (omega arith)

  -- the record to move is still the one that was there
  same_record : get_or held i d ≡ get_or hs i d
  same_record =
      ap (λ (xs : List Held). get_or xs i d) (m.done ∙ ap (λ (rest : List Held). relaid 0 (take i hs) ++ rest) (drop_more hs i d within))
      ∙ get_or_at (relaid 0 (take i hs)) (get_or hs i d) (drop (i + 1) hs) d i front_length

  laid_next : Laid m.reach (get_or hs i d ∷ drop (i + 1) hs) (length b)
  laid_next = subst (λ (rest : List Held). Laid m.reach rest (length b)) (drop_more hs i d within) m.laid

  move_low : end ≤ (get_or hs i d).at
  move_low = let low = m.low in omega (arith, laid_next.0)

  move_there : (get_or hs i d).at + size_of (get_or hs i d).count ≤ length bytes
  move_there =
      let long = m.long in
      omega (arith, laid_bound ((get_or hs i d).at + size_of (get_or hs i d).count) (drop (i + 1) hs) (length b) laid_next.1)

  moved_more : Moved b hs (i + 1) (paste bytes end (drop (get_or hs i d).at bytes) (size_of (get_or hs i d).count)) (set held i (moved (get_or hs i d) end)) (end + size_of (get_or hs i d).count)
  moved_more =
      let h = get_or hs i d in
      let n = size_of h.count in
      let s = drop h.at bytes in
      let low = move_low in
      let there = move_there in
      let long : n ≤ length s = rw length-drop (omega arith) in
      let short : end ≤ length bytes = omega arith in
      let next : take (i + 1) hs ≡ take i hs ++ (h ∷ []) = take_more hs i d within in
      let same : drop h.at bytes ≡ drop h.at b = drop_further m.reach h.at bytes b laid_next.0 m.rest in
      let place : end ≡ 0 + total (take i hs) = omega (arith, m.size) in
      record {
        done = ap (λ (xs : List Held). set xs i (moved h end)) (m.done ∙ ap (λ (rest : List Held). relaid 0 (take i hs) ++ rest) (drop_more hs i d within))
            ∙ set_at (relaid 0 (take i hs)) h (drop (i + 1) hs) (moved h end) i front_length
            ∙ ap (λ at. relaid 0 (take i hs) ++ (moved h at ∷ drop (i + 1) hs)) place
            ∙ sym (append_assoc (relaid 0 (take i hs)) (moved h (0 + total (take i hs)) ∷ []) (drop (i + 1) hs))
            ∙ ap (λ (front : List Held). front ++ drop (i + 1) hs) (sym (relaid_push 0 (take i hs) h) ∙ ap (relaid 0) (sym next));
        size = let e = ap total next ∙ total_push (take i hs) h in omega (arith, m.size);
        front = take-paste bytes end s n short long
            ∙ ap (λ front. front ++ take n s) m.front ∙ ap (λ (rest : List ℕ). parts b (take i hs) ++ take n rest) same
            ∙ sym (parts_push b (take i hs) h) ∙ ap (parts b) (sym next);
        long = length-paste bytes end s n (omega arith) long ∙ m.long;
        reach = h.at + n;
        low = omega arith;
        laid = laid_next.1;
        rest = drop_further (end + n) (h.at + n) _ bytes (omega arith) (drop-paste bytes end s n short long)
            ∙ drop_further m.reach (h.at + n) bytes b (omega (arith, laid_next.0)) m.rest;
      }

  -- the same of the record that is read now
  pub bounds : (end ≤ (get_or held i d).at) × ((get_or held i d).at + size_of (get_or held i d).count ≤ length bytes)
  bounds =
      subst (λ (h : Held). (end ≤ h.at) × (h.at + size_of h.count ≤ length bytes)) (sym same_record) (move_low, move_there)

  pub moved-next : (after : List ℕ) → after ≡ copy_within bytes (get_or held i d).at ((get_or held i d).at + size_of (get_or held i d).count) end → Moved b hs (i + 1) after (set held i (moved (get_or held i d) end)) (end + size_of (get_or held i d).count)
  moved-next after e =
      let k : (get_or held i d).at + size_of (get_or held i d).count - (get_or held i d).at ≡ size_of (get_or held i d).count = omega arith in
      subst (λ (bs : List ℕ). Moved b hs (i + 1) bs (set held i (moved (get_or held i d) end)) (end + size_of (get_or held i d).count))
      (sym (e ∙ ap (paste bytes end (drop (get_or held i d).at bytes)) k))
      (subst (λ (h : Held). Moved b hs (i + 1) (paste bytes end (drop h.at bytes) (size_of h.count)) (set held i (moved h end)) (end + size_of h.count))
      (sym same_record) moved_more)
