-- Reading undoes writing, item by item, and writing undoes reading: each item's bytes are a letter and operands of its
-- width, so the reader finds the same item there, and goes on where the writer went on.
use Rattle.std.proofs.Common.{◌≡◌, ℕ, zero, suc, ◌+◌, ◌≤◌, Bool, true, false, cond, ltb, leb, List, [], ◌∷◌, ◌++◌, length, take, drop, Some, None, Ok, Err, Option, sym, refl, ap, ◌∙◌, subst, add-zero, arith, length-append, take-append-drop, length-take-le, take_at, drop_at}
use Rattle.std.proofs.lemmas.Bool.{cond-true, cond-false, le-leb, leb-true, lt-ltb, eqb-true, eq-eqb}
use Rattle.refusal.specs.declared.Refusal.{Refusal}
use Rattle.refusal.specs.declared.Refusal.TheVariants.{CutShort, OpenMisplaced}
use Rattle.runlist.specs.declared.reader.RefusedAt.{RefusedAt}
use Rattle.runlist.specs.Format.{Item, width_of}
use Rattle.runlist.specs.Lists.{Next, end, refuse, command, Reading, misplaced, next_of_width, next, after_next, read_on, read_list, ended_by, too_long, bytes, has_width, whole, append_refusal, Writing, after_append, write_on, write_list, overwritten}
use Rattle.refusal.specs.Answers.{replied}
use Rattle.runlist.specs.Writes.{written}
use Rattle.runlist.specs.Laws.{places_from, whole_of, items_of, ReadsBack, WrittenAgain, RoundTrip}
use Rattle.runlist.proofs.Reading.{read_skip}
use Rattle.runlist.proofs.Writing.{appended}

-- a writing that no refusal ended has appended its first item
unended : (len : ℕ) (o : Option Refusal) (new : List ℕ) (more : Writing) → (after_append len o new more).ended ≡ None → o ≡ None
unended len (Some why) new more e = absurd (cc)
unended len None new more e = refl

width_known : (o : Option ℕ) (count : ℕ) → has_width o count ≡ true → o ≡ Some count
width_known None count e = absurd (cc)
width_known (Some width) count e = ap Some (eqb-true width count e)

-- in front of other bytes, an item that is whole and in its place is found again
found_again : (opened : Bool) (i : Item) (rest : List ℕ) → whole i ≡ true → misplaced opened i.letter ≡ false
    → next_of_width (width_of i.letter) opened i.letter (i.operands ++ rest) ≡ command i
found_again opened i rest wide good =
    let ops = i.operands in
    let there = ops ++ rest in
    let fits : length ops ≤ length there = simp length-append (omega arith) in
    ap (λ (w : Option ℕ). next_of_width w opened i.letter there) (width_known (width_of i.letter) (length ops) wide)
    ∙ cond-true _ _ _ (le-leb (length ops) (length there) fits)
    ∙ cond-false _ _ _ good
    ∙ ap (λ (l : List ℕ). command (record { letter = i.letter; operands = l })) (take_at ops rest (length ops) refl)

-- how the reader meets an item that was written
read-item : (opened : Bool) (at : ℕ) (i : Item) (rest : List ℕ) → whole i ≡ true → misplaced opened i.letter ≡ false
    → read_on 0 opened at (bytes i ++ rest)
    ≡ record {
      given = record { offset = at; item = i } ∷ (read_on 0 true (at + length (bytes i)) rest).given;
      ended = (read_on 0 true (at + length (bytes i)) rest).ended;
    }
read-item opened at i rest wide good =
    let ops = i.operands in
    let more : ℕ → Reading = λ skip. read_on skip true (suc at) (ops ++ rest) in
    let fits : length ops ≤ length (ops ++ rest) = simp length-append (omega arith) in
    let on : more (length ops) ≡ read_on 0 true (at + length (bytes i)) rest =
    read_skip (length ops) true (suc at) (ops ++ rest) fits
    ∙ ap (read_on 0 true (suc at + length ops)) (drop_at ops rest (length ops) refl)
    ∙ ap (λ (n : ℕ). read_on 0 true n rest) (let e : suc at + length ops ≡ at + suc (length ops) = omega arith in e) in
    ap (λ (n : Next). after_next at n more) (found_again opened i rest wide good)
    ∙ ap (λ (r : Reading). record { given = record { offset = at; item = i } ∷ r.given; ended = r.ended }) on

pub back_on : (room len : ℕ) (is : List Item) → (write_on room len is).ended ≡ None
    → read_on 0 (ltb 0 len) len (write_on room len is).wrote ≡ record { given = places_from len is; ended = None }
back_on room len [] e = refl
back_on room len (i ∷ is) e =
    let size = length (bytes i) in
    let more = write_on room (len + size) is in
    let none = unended len (append_refusal room len i) (bytes i) more e in
    let fits = appended room len i none in
    let all : write_on room len (i ∷ is) ≡ record { wrote = bytes i ++ more.wrote; ended = more.ended } = ap (λ (o : Option Refusal). after_append len o (bytes i) more) none in
    let rest = back_on room (len + size) is (sym (ap (λ (w : Writing). w.ended) all) ∙ e) in
    let past : ltb 0 (len + size) ≡ true = lt-ltb 0 (len + size) (omega arith) in
    let rest2 = subst (λ (b : Bool). read_on 0 b (len + size) more.wrote ≡ record { given = places_from (len + size) is; ended = None }) past rest in
    ap (λ (w : Writing). read_on 0 (ltb 0 len) len w.wrote) all
    ∙ read-item (ltb 0 len) len i more.wrote fits.wide fits.placed
    ∙ ap (λ (r : Reading). record { given = record { offset = len; item = i } ∷ r.given; ended = r.ended }) rest2

short_on : (room len : ℕ) (is : List Item) → len ≤ 65536 → (write_on room len is).ended ≡ None → len + length (write_on room len is).wrote ≤ 65536
short_on room len [] h e = omega arith
short_on room len (i ∷ is) h e =
    let size = length (bytes i) in
    let more = write_on room (len + size) is in
    let none = unended len (append_refusal room len i) (bytes i) more e in
    let fits = appended room len i none in
    let all : write_on room len (i ∷ is) ≡ record { wrote = bytes i ++ more.wrote; ended = more.ended } = ap (λ (o : Option Refusal). after_append len o (bytes i) more) none in
    let rest = short_on room (len + size) is fits.short (sym (ap (λ (w : Writing). w.ended) all) ∙ e) in
    omega (arith, ap (λ (w : Writing). length w.wrote) all, length-append (bytes i) more.wrote, rest)

pub reads_back : ReadsBack
reads_back room is e =
    cond-true _ _ _ (le-leb (length (write_list room is).wrote) 65536 (let h : length (write_list room is).wrote ≤ 65536 = omega (arith, short_on room 0 is (omega arith) e) in h))
    ∙ back_on room 0 is e

-- what the reader found stood there: its letter, operands of its width, in their place
record Found (opened : Bool) (letter : ℕ) (rest : List ℕ) (i : Item) : Type 0 where
  same_letter : i.letter ≡ letter
  width : width_of letter ≡ Some (length i.operands)
  fits : length i.operands ≤ length rest
  front : i.operands ≡ take (length i.operands) rest
  placed : misplaced opened letter ≡ false

found_some : (long bad opened : Bool) (letter width : ℕ) (rest : List ℕ) (i : Item)
    → leb width (length rest) ≡ long → misplaced opened letter ≡ bad → width_of letter ≡ Some width
    → next_of_width (Some width) opened letter rest ≡ command i → Found opened letter rest i
found_some false bad opened letter width rest i t m w e =
    let cut : next_of_width (Some width) opened letter rest ≡ refuse CutShort = cond-false _ _ _ t in
    absurd (cc)
found_some true true opened letter width rest i t m w e =
    let bad : next_of_width (Some width) opened letter rest ≡ refuse OpenMisplaced = cond-true _ _ _ t ∙ cond-true _ _ _ m in
    absurd (cc)
found_some true false opened letter width rest i t m w e =
    let fits = leb-true width (length rest) t in
    let good : next_of_width (Some width) opened letter rest ≡ command (record { letter = letter; operands = take width rest }) = cond-true _ _ _ t ∙ cond-false _ _ _ m in
    let same : command i ≡ command (record { letter = letter; operands = take width rest }) = sym e ∙ good in
    let is : i ≡ record { letter = letter; operands = take width rest } = cc in
    let ops : i.operands ≡ take width rest = ap (λ (j : Item). j.operands) is in
    let long : length i.operands ≡ width = ap length ops ∙ length-take-le width rest fits in
    record {
      same_letter = ap (λ (j : Item). j.letter) is;
      width = w ∙ ap Some (sym long);
      fits = omega (arith, long, fits);
      front = ops ∙ ap (λ (n : ℕ). take n rest) (sym long);
      placed = m;
    }

found : (o : Option ℕ) (opened : Bool) (letter : ℕ) (rest : List ℕ) (i : Item)
    → width_of letter ≡ o → next_of_width o opened letter rest ≡ command i → Found opened letter rest i
found None opened letter rest i w e = absurd (cc)
found (Some width) opened letter rest i w e =
    found_some (leb width (length rest)) (misplaced opened letter) opened letter width rest i refl refl w e

-- an item that the reader found can be appended where it stood
append_again : (room at : ℕ) (letter : ℕ) (rest : List ℕ) (i : Item) → Found (ltb 0 at) letter rest i
    → at + suc (length rest) ≤ 65536 → at + suc (length rest) ≤ room → append_refusal room at i ≡ None
append_again room at letter rest i f short roomy =
    let size = length (bytes i) in
    let wide : whole i ≡ true = ap (λ (l : ℕ). has_width (width_of l) (length i.operands)) f.same_letter ∙ ap (λ (o : Option ℕ). has_width o (length i.operands)) f.width ∙ eq-eqb (length i.operands) (length i.operands) refl in
    let fits = f.fits in
    cond-true _ _ _ (le-leb (at + size) 65536 (let h : at + size ≤ 65536 = omega arith in h))
    ∙ cond-true _ _ _ wide
    ∙ cond-false _ _ _ (ap (misplaced (ltb 0 at)) f.same_letter ∙ f.placed)
    ∙ cond-true _ _ _ (le-leb (at + size) room (let h : at + size ≤ room = omega arith in h))

-- a letter in front is an item or is refused, and never the end
choose : (long bad : Bool) (i : Item) → cond long (cond bad (refuse OpenMisplaced) (command i)) (refuse CutShort) ≡ end → ⊥
choose true true i e = cc
choose true false i e = cc
choose false bad i e = cc

no_end : (o : Option ℕ) (opened : Bool) (letter : ℕ) (rest : List ℕ) → next_of_width o opened letter rest ≡ end → ⊥
no_end None opened letter rest e = cc
no_end (Some width) opened letter rest e = choose (leb width (length rest)) (misplaced opened letter) (record { letter = letter; operands = take width rest }) e

module _ (room : ℕ) where
  -- what is read behind the operands still to pass over is written again
  abbrev Again : ℕ → Bool → ℕ → List ℕ → Type 0
  Again skip opened at rest =
      write_on room (at + skip) (items_of (read_on skip opened at rest).given) ≡ record { wrote = drop skip rest; ended = None }

  again_front : (at b : ℕ) (rest : List ℕ) (n : Next) → next (ltb 0 at) (b ∷ rest) ≡ n
      → at + suc (length rest) ≤ 65536 → at + suc (length rest) ≤ room
      → ((skip : ℕ) → skip ≤ length rest → (read_on skip true (suc at) rest).ended ≡ None → Again skip true (suc at) rest)
      → (after_next at n (λ skip. read_on skip true (suc at) rest)).ended ≡ None
      → write_on room at (items_of (after_next at n (λ skip. read_on skip true (suc at) rest)).given) ≡ record { wrote = b ∷ rest; ended = None }
  again_front at b rest end is short roomy more e = absurd (no_end (width_of b) (ltb 0 at) b rest is)
  again_front at b rest (refuse why) is short roomy more e = absurd (cc)
  again_front at b rest (command i) is short roomy more e =
      let f = found (width_of b) (ltb 0 at) b rest i refl is in
      let ops = i.operands in
      let on = more (length ops) f.fits e in
      let stop : suc at + length ops ≡ at + suc (length ops) = omega arith in
      let items = items_of (read_on (length ops) true (suc at) rest).given in
      let none = append_again room at b rest i f short roomy in
      ap (λ (o : Option Refusal). after_append at o (bytes i) (write_on room (at + suc (length ops)) items)) none
      ∙ ap (λ (w : Writing). record { wrote = bytes i ++ w.wrote; ended = w.ended }) (ap (λ (k : ℕ). write_on room k items) (sym stop) ∙ on)
      ∙ ap (λ (w : List ℕ). record { wrote = w; ended = None }) (λ k. f.same_letter k ∷ (f.front k ++ drop (length ops) rest))
      ∙ ap (λ (w : List ℕ). record { wrote = b ∷ w; ended = None }) (take-append-drop (length ops) rest)

  again_on : (skip : ℕ) (opened : Bool) (at : ℕ) (rest : List ℕ) → opened ≡ ltb 0 (at + skip) → skip ≤ length rest
      → at + length rest ≤ 65536 → at + length rest ≤ room → (read_on skip opened at rest).ended ≡ None → Again skip opened at rest
  again_on zero opened at [] o h short roomy e = refl
  again_on (suc skip) opened at [] o h short roomy e = absurd (omega arith)
  again_on (suc skip) opened at (b ∷ rest) o h short roomy e =
      let stop : suc at + skip ≡ at + suc skip = omega arith in
      let step = again_on skip opened (suc at) rest (o ∙ ap (ltb 0) (sym stop)) (omega arith) (omega arith) (omega arith) e in
      ap (λ (n : ℕ). write_on room n (items_of (read_on skip opened (suc at) rest).given)) (sym stop) ∙ step
  again_on zero opened at (b ∷ rest) o h short roomy e =
      let here : opened ≡ ltb 0 at = o ∙ ap (ltb 0) (add-zero at) in
      let known : Bool → Reading = λ v. after_next at (next v (b ∷ rest)) (λ skip. read_on skip true (suc at) rest) in
      let step =
      again_front at b rest (next (ltb 0 at) (b ∷ rest)) refl (omega arith) (omega arith)
      (λ skip fits un. again_on skip true (suc at) rest (sym (lt-ltb 0 (suc at + skip) (omega arith))) fits (omega arith) (omega arith) un)
      (ap (λ (v : Bool). (known v).ended) (sym here) ∙ e) in
      ap (λ (n : ℕ). write_on room n (items_of (known opened).given)) (add-zero at)
      ∙ ap (λ (v : Bool). write_on room at (items_of (known v).given)) here ∙ step

pub written-again : WrittenAgain
written-again room list e roomy = on (leb (length list) 65536) refl
  where
    on : (short : Bool) → leb (length list) 65536 ≡ short → write_list room (items_of (read_list list).given) ≡ record { wrote = list; ended = None }
    on true t =
        let is : read_list list ≡ read_on 0 false 0 list = cond-true _ _ _ t in
        ap (λ (r : Reading). write_list room (items_of r.given)) is
        ∙ again_on room 0 false 0 list refl (omega arith) (omega (arith, leb-true (length list) 65536 t)) (omega arith) (ap (λ (r : Reading). r.ended) (sym is) ∙ e)
    on false t =
        let is : read_list list ≡ ended_by (Some too_long) = cond-false _ _ _ t in
        let some : None ≡ Some too_long = sym e ∙ ap (λ (r : Reading). r.ended) is in
        absurd (cc)

pub round_trip : RoundTrip
round_trip = record { back = reads_back; again = written-again }

-- the front of a buffer to which a writing went whole
front_of : (w : Writing) (o : Option RefusedAt) (was : List ℕ) (n : ℕ) → w.ended ≡ o → Ok n ≡ written w
    → (w.ended ≡ None) × (take n (overwritten was 0 w.wrote) ≡ w.wrote)
front_of w None was n e ok =
    let whole : Ok n ≡ Ok (length w.wrote) = ok ∙ ap (λ (o : Option RefusedAt). replied o (length w.wrote)) e in
    let long : length w.wrote ≡ n = cc in
    (e, take_at w.wrote (drop (0 + length w.wrote) was) n long)
front_of w (Some why) was n e ok =
    let bad : Ok n ≡ Err why = ok ∙ ap (λ (o : Option RefusedAt). replied o (length w.wrote)) e in
    absurd (cc)

pub read_again : (room : ℕ) (is : List Item) (was : List ℕ) (n : ℕ) → Ok n ≡ written (write_list room is) → {buffer : List ℕ}
    → buffer ≡ overwritten was 0 (write_list room is).wrote → read_list (take n buffer) ≡ whole_of is
read_again room is was n ok after =
    let f = front_of (write_list room is) (write_list room is).ended was n refl ok in
    ap (λ (b : List ℕ). read_list (take n b)) after ∙ ap read_list f.1 ∙ reads_back room is f.0
