-- One step of a reader: what is left of a list begins with the item at its front, and goes on behind its operands.
use Rattle.std.proofs.Common.{◌≡◌, ℕ, zero, suc, ◌+◌, ◌<◌, ◌≤◌, Bool, true, false, cond, leb, List, [], ◌∷◌, length, get_or, take, drop, Some, None, Ok, Err, Option, Result, sym, refl, ap, ◌∙◌, subst, ⊎_elim, add-zero, arith, length-drop, length-take-le, drop-drop}
use Rattle.std.proofs.lemmas.List.{drop_all, drop_more}
use Rattle.std.proofs.lemmas.Bool.{cond-true, cond-false, cond_both, le-leb, lt-leb, leb-true, cases_lt}
use Rattle.refusal.specs.Answers.{replied}
use Rattle.refusal.specs.declared.Refusal.TheVariants.{CutShort, OpenMisplaced}
use Rattle.runlist.specs.declared.reader.Placed.{Placed}
use Rattle.runlist.specs.declared.reader.RefusedAt.{RefusedAt}
use Rattle.runlist.specs.declared.reader.Reader.{Reader}
use Rattle.std.specs.Iterator.{Yields}
use Rattle.std.specs.List.{FoldsTo}
use Rattle.std.specs.Option.{MatchOption}
use Rattle.runlist.specs.Format.{Item, item, width_of}
use Rattle.runlist.specs.Lists.{Next, end, refuse, command, Place, Reading, misplaced, next_of_width, next, after_next, read_on, read_list, ended_by, too_long}
use Rattle.runlist.specs.Reads.{Given, given, nothing, refusal, placed, place, left_at, refused_once, first_of, rest_of, Step, accepted, to_come}

-- passing over operand bytes is going on behind them
pub read_skip : (skip : ℕ) (opened : Bool) (at : ℕ) (rest : List ℕ) → skip ≤ length rest
    → read_on skip opened at rest ≡ read_on 0 opened (at + skip) (drop skip rest)
read_skip zero opened at rest h = rw add-zero
read_skip (suc skip) opened at [] h = absurd (omega arith)
read_skip (suc skip) opened at (b ∷ rest) h =
    read_skip skip opened (suc at) rest (omega arith)
    ∙ ap (λ (n : ℕ). read_on 0 opened n (drop skip rest)) (let e : suc at + skip ≡ at + suc skip = omega arith in e)

-- the operands of an item lie in the list
in_list : (ok bad : Bool) (letter width : ℕ) (rest : List ℕ) (i : Item) → leb width (length rest) ≡ ok
    → cond ok (cond bad (refuse OpenMisplaced) (command (record { letter = letter; operands = take width rest }))) (refuse CutShort) ≡ command i
    → length i.operands ≤ length rest
in_list true true letter width rest i t e = absurd (cc)
in_list true false letter width rest i t e =
    let same : i.operands ≡ take width rest = cc in
    let fits = leb-true width (length rest) t in
    omega (arith, ap length same, length-take-le width rest fits)
in_list false bad letter width rest i t e = absurd (cc)

pub operands_fit : (width : Option ℕ) (opened : Bool) (letter : ℕ) (rest : List ℕ) (i : Item)
    → next_of_width width opened letter rest ≡ command i → length i.operands ≤ length rest
operands_fit None opened letter rest i e = absurd (cc)
operands_fit (Some width) opened letter rest i e =
    in_list (leb width (length rest)) (misplaced opened letter) letter width rest i refl e

pub left_end : (list : List ℕ) (opened : Bool) (at : ℕ) → length list ≤ at → left_at list opened at ≡ ended_by None
left_end list opened at h =
    ap (λ (d : List ℕ). cond (leb (length list) 65536) (read_on 0 opened at d) (refused_once d)) (drop_all at list h)
    ∙ cond_both (leb (length list) 65536) _ _ (λ (r : Reading). r ≡ ended_by None) (λ _. refl) (λ _. refl)

left_long : (list : List ℕ) (opened : Bool) (at : ℕ) → at < length list → 65536 < length list
    → left_at list opened at ≡ ended_by (Some too_long)
left_long list opened at h long =
    cond-false _ _ _ (lt-leb (length list) 65536 long) ∙ ap refused_once (drop_more list at 0 h)

left-short : (list : List ℕ) (opened : Bool) (at : ℕ) → length list ≤ 65536
    → left_at list opened at ≡ read_on 0 opened at (drop at list)
left-short list opened at short = cond-true _ _ _ (le-leb (length list) 65536 short)

module _ (list : List ℕ) (opened : Bool) (at : ℕ) (inside : at < length list) (short : length list ≤ 65536) where
  abbrev letter : ℕ
  letter = get_or list at 0

  abbrev front : Next
  front = next_of_width (width_of letter) opened letter (drop (at + 1) list)

  left_front : left_at list opened at ≡ after_next at front (λ skip. read_on skip true (suc at) (drop (at + 1) list))
  left_front = left-short list opened at short ∙ ap (read_on 0 opened at) (drop_more list at 0 inside)

  -- what is left behind an item's operands
  behind : (i : Item) → command i ≡ front
      → read_on (length i.operands) true (suc at) (drop (at + 1) list) ≡ left_at list true (at + 1 + length i.operands)
  behind i e =
      let rest = drop (at + 1) list in
      let n = length i.operands in
      let fits = operands_fit (width_of letter) opened letter rest i (sym e) in
      read_skip n true (suc at) rest fits
      ∙ ap (λ (d : List ℕ). read_on 0 true (suc at + n) d) (drop-drop n (at + 1) list)
      ∙ ap (λ (k : ℕ). read_on 0 true k (drop (at + 1 + n) list)) (let same : suc at + n ≡ at + 1 + n = omega arith in same)
      ∙ sym (left-short list true (at + 1 + n) short)

  pub step-placed : (i : Item) → command i ≡ front
      → Step (left_at list opened at) (placed (record { offset = at; item = i })) (left_at list true (at + 1 + length i.operands))
  step-placed i e =
      let more : ℕ → Reading = λ skip. read_on skip true (suc at) (drop (at + 1) list) in
      let b : left_at list opened at ≡ after_next at (command i) more = left_front ∙ ap (λ (n : Next). after_next at n more) (sym e) in
      record {
        gives = ap (λ (r : Reading). first_of r.given r.ended) (sym b);
        goes = sym (behind i e) ∙ ap (λ (r : Reading). rest_of r.given r.ended) (sym b);
      }

  -- the item ends within the list
  pub within_list : (i : Item) → command i ≡ front → at + 1 + length i.operands ≤ length list
  within_list i e =
      omega (arith, operands_fit (width_of letter) opened letter (drop (at + 1) list) i (sym e), length-drop (at + 1) list)

-- what a reader gave tells how its reading began
gave_in : (ps : List Place) (ended : Option RefusedAt) (p : Place) → placed p ≡ first_of ps ended
    → (ps ≡ p ∷ (rest_of ps ended).given) × ((rest_of ps ended).ended ≡ ended)
gave_in [] None p e = absurd (cc)
gave_in [] (Some r) p e = absurd (cc)
gave_in (q ∷ ps) ended p e = let same : q ≡ p = cc in (ap (λ (x : Place). x ∷ ps) same, refl)

pub gave_item : (before after : Reading) (p : Place) → Step before (placed p) after
    → (before.given ≡ p ∷ after.given) × (after.ended ≡ before.ended)
gave_item before after p s =
    let g = gave_in before.given before.ended p s.gives in
    (g.0 ∙ ap (λ (r : Reading). p ∷ r.given) (sym s.goes), ap (λ (r : Reading). r.ended) s.goes ∙ g.1)

refused_in : (ps : List Place) (ended : Option RefusedAt) (r : RefusedAt) → refusal r ≡ first_of ps ended → (ps ≡ []) × (ended ≡ Some r)
refused_in [] None r e = absurd (cc)
refused_in [] (Some q) r e = let same : q ≡ r = cc in (refl, ap Some same)
refused_in (q ∷ ps) ended r e = absurd (cc)

pub gave_refusal : (before after : Reading) (r : RefusedAt) → Step before (refusal r) after → (before.given ≡ []) × (before.ended ≡ Some r)
gave_refusal before after r s = refused_in before.given before.ended r s.gives

ended_in : (ps : List Place) (ended : Option RefusedAt) → nothing ≡ first_of ps ended → (ps ≡ []) × (ended ≡ None)
ended_in [] None e = (refl, refl)
ended_in [] (Some q) e = absurd (cc)
ended_in (q ∷ ps) ended e = absurd (cc)

pub gave_nothing : (before after : Reading) → Step before nothing after → (before.given ≡ []) × (before.ended ≡ None)
gave_nothing before after s = ended_in before.given before.ended s.gives

-- a call's result known by another name
pub step_of : {before after : Reading} {r same : Result Placed RefusedAt} → r ≡ same → Step before (given (Some r)) after
    → Step before (given (Some same)) after
step_of {before} {after} e s = subst (λ (x : Result Placed RefusedAt). Step before (given (Some x)) after) e s

-- each item takes a byte at least
few-next : (at : ℕ) (n : Next) (more : ℕ → Reading) (most : ℕ) → ((skip : ℕ) → length (more skip).given ≤ most)
    → length (after_next at n more).given ≤ suc most
few-next at end more most h = omega arith
few-next at (refuse why) more most h = omega arith
few-next at (command i) more most h = omega (arith, h (length i.operands))

few_on : (skip : ℕ) (opened : Bool) (at : ℕ) (rest : List ℕ) → length (read_on skip opened at rest).given ≤ length rest
few_on zero opened at [] = omega arith
few_on (suc skip) opened at [] = omega arith
few_on (suc skip) opened at (b ∷ rest) = omega (arith, few_on skip opened (suc at) rest)
few_on zero opened at (b ∷ rest) =
    few-next at (next opened (b ∷ rest)) (λ skip. read_on skip true (suc at) rest) (length rest) (λ skip. few_on skip true (suc at) rest)

pub few_items : (list : List ℕ) → length (read_list list).given ≤ length list
few_items list =
    cond_both (leb (length list) 65536) (read_on 0 false 0 list) (ended_by (Some too_long)) (λ (r : Reading). length r.given ≤ length list)
    (λ _. few_on 0 false 0 list) (λ _. omega arith)

-- so many items of a reading have been given, and what is left is this
pub record Counted (all left : Reading) (count : ℕ) : Type 0 where
  pub sum : count + length left.given ≡ length all.given
  pub same_end : left.ended ≡ all.ended

pub counted_more : (all left after : Reading) (count : ℕ) (p : Place) → Counted all left count → Step left (placed p) after
    → Counted all after (count + 1)
counted_more all left after count p c s =
    let g = gave_item left after p s in
    record { sum = omega (arith, c.sum, ap length g.0); same_end = g.1 ∙ c.same_end }

pub counted_refused : (all left after : Reading) (count : ℕ) (r : RefusedAt) → Counted all left count → Step left (refusal r) after
    → Err r ≡ accepted all
counted_refused all left after count r c s =
    let g = gave_refusal left after r s in
    ap (λ (e : Option RefusedAt). replied e (length all.given)) (sym g.1 ∙ c.same_end)

pub counted_all : (all left after : Reading) (count : ℕ) → Counted all left count → Step left nothing after → Ok count ≡ accepted all
counted_all all left after count c s =
    let g = gave_nothing left after s in
    let n : count ≡ length all.given = omega (arith, c.sum, ap length g.0) in
    ap Ok n ∙ ap (λ (e : Option RefusedAt). replied e (length all.given)) (sym g.1 ∙ c.same_end)

-- an item in front of what is left stands in the list
from_next : (at : ℕ) (n : Next) (more : ℕ → Reading) (p : Place) → placed p ≡ first_of (after_next at n more).given (after_next at n more).ended
    → (p.offset ≡ at) × (command p.item ≡ n)
from_next at end more p e = absurd (cc)
from_next at (refuse why) more p e = absurd (cc)
from_next at (command i) more p e =
    let same : p ≡ record { offset = at; item = i } = cc in
    (ap (λ (q : Place). q.offset) same, ap (λ (q : Place). command q.item) same)

pub record InFront (list : List ℕ) (opened : Bool) (at : ℕ) (p : Place) : Type 0 where
  pub inside : at < length list
  pub short : length list ≤ 65536
  pub same_offset : p.offset ≡ at
  pub here : command p.item ≡ front list opened at inside short

pub in_front : (list : List ℕ) (opened : Bool) (at : ℕ) (p : Place)
    → placed p ≡ first_of (left_at list opened at).given (left_at list opened at).ended → InFront list opened at p
in_front list opened at p e =
    let first : Reading → Given = λ r. first_of r.given r.ended in
    ⊎_elim
    (λ inside. ⊎_elim
    (λ long. let bad : placed p ≡ refusal too_long = e ∙ ap first (left_long list opened at inside long) in absurd (cc))
    (λ short.
    let f = from_next at (front list opened at inside short) (λ skip. read_on skip true (suc at) (drop (at + 1) list)) p (e ∙ ap first (left_front list opened at inside short)) in
    record { inside = inside; short = short; same_offset = f.0; here = f.1 })
    (cases_lt 65536 (length list)))
    (λ past. let bad : placed p ≡ nothing = e ∙ ap first (left_end list opened at past) in absurd (cc))
    (cases_lt at (length list))

-- a reader stops behind the refusal in front of it
pub stopped : (r : Reader) {x : Result Placed RefusedAt} {e : RefusedAt} → given (Some x) ≡ first_of (to_come r).given (to_come r).ended → x ≡ Err e
    → Step (to_come r) (refusal e) (left_at r.list.now r.opened (length r.list.now))
stopped r {x} {e} first is =
    let gives : refusal e ≡ first_of (to_come r).given (to_come r).ended = ap (λ (v : Result Placed RefusedAt). given (Some v)) (sym is) ∙ first in
    let none = refused_in (to_come r).given (to_come r).ended e gives in record {
      gives = gives;
      goes = left_end r.list.now r.opened (length r.list.now) (omega arith) ∙ ap (λ (ps : List Place). rest_of ps (to_come r).ended) (sym none.0);
    }

-- where a reader goes on that has passed the command in front
pub record Passed (r : Reader) (p : Placed) (n : ℕ) : Type 0 where
  pub step : Step (to_come r) (placed (place p)) (left_at r.list.now true n)
  pub further : r.at < n
  pub fits : n ≤ length r.list.now
  pub short : length r.list.now ≤ 65536

pub passed : (r : Reader) {x : Result Placed RefusedAt} {p : Placed} → given (Some x) ≡ first_of (to_come r).given (to_come r).ended → x ≡ Ok p
    → Passed r p (p.offset + 1 + length (item p.command).operands)
passed r {x} {p} first is =
    let i = item p.command in
    let n = p.offset + 1 + length i.operands in
    let gives : placed (place p) ≡ first_of (to_come r).given (to_come r).ended = ap (λ (v : Result Placed RefusedAt). given (Some v)) (sym is) ∙ first in
    let f = in_front r.list.now r.opened r.at (place p) gives in
    let s = step-placed r.list.now r.opened r.at f.inside f.short i f.here in
    let fits = within_list r.list.now r.opened r.at f.inside f.short i f.here in
    let same : n ≡ r.at + 1 + length i.operands = omega (arith, f.same_offset) in
    record { step = record { gives = gives; goes = ap (left_at r.list.now true) same ∙ s.goes }; further = omega arith; fits = omega (arith, fits); short = f.short }

-- the turns of a fold over a reader that counts its items
module _ {P : Type 0} (turn : P → Result Placed RefusedAt → P → Type 0) (count : P → ℕ)
    (more : (p : P) (x : Placed) (q : P) → turn p (Ok x) q → count q ≡ count p + 1) (stops : (p : P) (e : RefusedAt) (q : P) → turn p (Err e) q → ⊥) where
  abbrev steps : Reader → Option (Result Placed RefusedAt) → Reader → Type 0
  steps = λ s r t. Step (to_come s) (given r) (to_come t)

  pub counted_turns : (all : Reading) (xs : List (Result Placed RefusedAt)) (s t : Reader) (p q : P) → Counted all (to_come s) (count p)
      → Yields steps s xs t → FoldsTo turn p xs q → Counted all (to_come t) (count q)
  counted_turns all [] s t p q c y f = subst (λ (r : Reader). Counted all (to_come r) (count q)) y (subst (λ (v : P). Counted all (to_come s) (count v)) f c)
  counted_turns all (Ok x ∷ xs) s t p q c y f =
      let next = counted_more all (to_come s) (to_come y.0) (count p) (place x) c y.1 in
      counted_turns all xs y.0 t f.0 q (subst (Counted all (to_come y.0)) (sym (more p x f.0 f.1)) next) y.2 f.2
  counted_turns all (Err e ∷ xs) s t p q c y f = absurd (stops p e f.0 f.1)

pub counted_none : (list : List ℕ) (first : Reading) → first ≡ read_list list → Counted (read_list list) first 0
counted_none list first e = rw e (record { sum = omega arith; same_end = refl })

pub counted_room : (list : List ℕ) (left after : Reading) (count : ℕ) (p : Placed) → Counted (read_list list) left count
    → Step left (given (Some (Ok p))) after → count + 1 ≤ length list
counted_room list left after count p c s =
    let g = gave_item left after (place p) s in omega (arith, c.sum, ap length g.0, few_items list)

-- where a fold over a reader ends: behind the last item, or at the refusal that a turn hands on
pub counted_end : (all left after : Reading) (count : ℕ) (r : Result ℕ RefusedAt) (o : Option (Result Placed RefusedAt))
    (whole : Type 0) (broke : Result Placed RefusedAt → Type 0) → (whole → r ≡ Ok count) → ((p : Placed) → broke (Ok p) → ⊥) → ((e : RefusedAt) → broke (Err e) → r ≡ Err e)
    → Counted all left count → Step left (given o) after → MatchOption o whole broke → r ≡ accepted all
counted_end all left after count r None whole broke ends goes fails c s m = ends m ∙ counted_all all left after count c s
counted_end all left after count r (Some (Ok p)) whole broke ends goes fails c s m = absurd (goes p m)
counted_end all left after count r (Some (Err e)) whole broke ends goes fails c s m = fails e m ∙ counted_refused all left after count e c s
