-- One step of the writer, and the loop over commands: an append that is not refused passed every test.
use Rattle.std.proofs.Common.{◌≡◌, ℕ, ◌+◌, ◌<◌, ◌≤◌, Bool, true, false, cond, ltb, leb, List, [], ◌∷◌, ◌++◌, map, length, get_or, take, drop, Some, None, Ok, Err, Option, Result, MatchResult, is_ok, sym, refl, ap, ◌∙◌, subst, append_assoc, append-nil, arith, length-append, length-drop, take-append-drop, length-take-le, drop-drop, take_at, drop_at}
use Rattle.std.proofs.lemmas.List.{drop_more, drop-map, drop_all}
use Rattle.std.proofs.lemmas.Bool.{leb-true}
use Rattle.std.proofs.lemmas.Result.{err_from_is_err_and}
use Rattle.std.specs.Result.{IsErrAnd}
use Rattle.refusal.specs.Answers.{replied, unless_refused}
use Rattle.refusal.specs.declared.Refusal.{Refusal}
use Rattle.runlist.specs.declared.reader.RefusedAt.{RefusedAt}
use Rattle.runlist.specs.declared.command.Command.{Command}
use Rattle.runlist.specs.declared.command.Command.TheVariants as command
use Rattle.runlist.specs.Format.{Item, item}
use Rattle.runlist.specs.Lists.{bytes, whole, misplaced, append_refusal, overwritten, Writing, after_append, write_on, write_list}
use Rattle.runlist.specs.Writes.{written}

passed : (long wide bad roomy : Bool) (too_long cut placed full : Refusal)
    → cond long (cond wide (cond bad (Some placed) (cond roomy None (Some full))) (Some cut)) (Some too_long) ≡ None
    → (long ≡ true) × (wide ≡ true) × (bad ≡ false) × (roomy ≡ true)
passed true true true roomy w x y z e = absurd (cc)
passed true true false true w x y z e = (refl, refl, refl, refl)
passed true true false false w x y z e = absurd (cc)
passed true false bad roomy w x y z e = absurd (cc)
passed false wide bad roomy w x y z e = absurd (cc)

-- an append that is not refused
pub record Appended (room len : ℕ) (i : Item) : Type 0 where
  pub short : len + length (bytes i) ≤ 65536
  pub wide : whole i ≡ true
  pub placed : misplaced (ltb 0 len) i.letter ≡ false
  pub roomy : len + length (bytes i) ≤ room

pub appended : (room len : ℕ) (i : Item) → append_refusal room len i ≡ None → Appended room len i
appended room len i e =
    let p = passed (leb (len + length (bytes i)) 65536) (whole i) (misplaced (ltb 0 len) i.letter) (leb (len + length (bytes i)) room) _ _ _ _ e in
    record { short = leb-true _ _ p.0; wide = p.1; placed = p.2; roomy = leb-true _ _ p.3 }

-- what was written before, and then more
abbrev pub behind : List ℕ → Writing → Writing
behind before w = record { wrote = before ++ w.wrote; ended = w.ended }

-- the first items lie in the buffer, behind them it is as it was, and the others are still to write
pub record Sofar (was : List ℕ) (is : List Item) (index : ℕ) (buffer : List ℕ) (len : ℕ) : Type 0 where
  pub same_length : length buffer ≡ length was
  pub inside : len ≤ length was
  pub untouched : drop len buffer ≡ drop len was
  pub leaves : write_on (length was) 0 is ≡ behind (take len buffer) (write_on (length was) len (drop index is))

length-overwritten : (buffer : List ℕ) (at : ℕ) (new : List ℕ) → at + length new ≤ length buffer
    → length (overwritten buffer at new) ≡ length buffer
length-overwritten buffer at new h =
    simp (length-append, length-drop) (omega (arith, length-take-le at buffer (let le : at ≤ length buffer = omega arith in le)))

-- the front of an overwritten buffer, up to the end of what is new
length_front : (buffer : List ℕ) (at : ℕ) (new : List ℕ) → at + length new ≤ length buffer
    → length (take at buffer ++ new) ≡ at + length new
length_front buffer at new h =
    simp length-append (omega (arith, length-take-le at buffer (let le : at ≤ length buffer = omega arith in le)))

module _ (was : List ℕ) (is : List Item) (index : ℕ) (buffer : List ℕ) (len : ℕ) (far : Sofar was is index buffer len) where
  pub sofar_more : (i : Item) → drop index is ≡ i ∷ drop (index + 1) is → None ≡ append_refusal (length buffer) len i
      → Sofar was is (index + 1) (overwritten buffer len (bytes i)) (len + length (bytes i))
  sofar_more i here none =
      let new = bytes i in
      let room = length was in
      let fits : len + length new ≤ length buffer = (appended (length buffer) len i (sym none)).roomy in
      let stop = len + length new in
      let front = length_front buffer len new fits in
      let more = write_on room stop (drop (index + 1) is) in
      record {
        same_length = length-overwritten buffer len new fits ∙ far.same_length;
        inside = omega (arith, far.same_length);
        untouched =
            drop_at (take len buffer ++ new) (drop stop buffer) stop front
            ∙ sym (drop-drop (length new) len buffer) ∙ ap (drop (length new)) far.untouched ∙ drop-drop (length new) len was;
        leaves =
            far.leaves ∙ ap (λ (r : List Item). behind (take len buffer) (write_on room len r)) here
            ∙ ap (λ (o : Option Refusal). behind (take len buffer) (after_append len o new more)) (ap (λ (n : ℕ). append_refusal n len i) (sym far.same_length) ∙ sym none)
            ∙ ap (λ (w : List ℕ). record { wrote = w; ended = more.ended }) (sym (append_assoc (take len buffer) new more.wrote))
            ∙ ap (λ (w : List ℕ). behind w more) (sym (take_at (take len buffer ++ new) (drop stop buffer) stop front));
      }

  -- where nothing more is written, the buffer holds what the definition says
  pub sofar_done : (e : Option RefusedAt) → write_on (length was) len (drop index is) ≡ record { wrote = []; ended = e }
      → (replied e len ≡ written (write_list (length was) is)) × (buffer ≡ overwritten was 0 (write_list (length was) is).wrote)
  sofar_done e last =
      let fits : len ≤ length buffer = omega (arith, far.inside, far.same_length) in
      let all : write_list (length was) is ≡ record { wrote = take len buffer ++ []; ended = e } = far.leaves ∙ ap (behind (take len buffer)) last in
      let long : length (take len buffer ++ []) ≡ len = simp append-nil (length-take-le len buffer fits) in
      let stop : len ≡ 0 + length (take len buffer ++ []) = omega (arith, long) in (
        ap (replied e) (sym long) ∙ ap written (sym all),
        sym (take-append-drop len buffer) ∙ ap (λ (d : List ℕ). take len buffer ++ d) far.untouched
            ∙ (λ k. sym (append-nil (take len buffer)) k ++ drop (stop k) was)
            ∙ ap (λ (w : Writing). overwritten was 0 w.wrote) (sym all),
      )

reply_ok : (o : Option Refusal) → is_ok (replied o (tt {0})) ≡ true → None ≡ o
reply_ok None e = refl
reply_ok (Some why) e = absurd (cc)

reply_err : (o : Option Refusal) (why : Refusal) → Err why ≡ replied o (tt {0}) → Some why ≡ o
reply_err None why e = absurd (cc)
reply_err (Some other) why e = cc

-- a refused call leaves what was
pub kept : {A : Type 0} (o : Option Refusal) (why : Refusal) (was new : A) → Err why ≡ replied o (tt {0}) → was ≡ unless_refused o was new
kept o why was new e = ap (λ (q : Option Refusal). unless_refused q was new) (reply_err o why e)

-- an answer whose error was mapped is a refusal just where the call was refused
module _ (o : Option Refusal) (r : Result (Unit {0}) Refusal) (q : Result (Unit {0}) RefusedAt) where
  pub mapped_ok : (x : Unit {0}) → r ≡ replied o (tt {0}) → is_ok q ≡ is_ok r → q ≡ Ok x → None ≡ o
  mapped_ok x answer same e = reply_ok o (sym (ap is_ok answer) ∙ sym same ∙ ap is_ok e)

  pub mapped_err : (y : RefusedAt) (Q : Refusal → RefusedAt → Type 0) → r ≡ replied o (tt {0}) → q ≡ Err y
      → MatchResult r (λ x. q ≡ Ok x) (λ e. IsErrAnd q (Q e)) → (why : Refusal) × (Err why ≡ replied o (tt {0})) × Q why y
  mapped_err y Q answer e h = by_cases r answer h
    where
      by_cases : (v : Result (Unit {0}) Refusal) → v ≡ replied o (tt {0}) → MatchResult v (λ x. q ≡ Ok x) (λ e. IsErrAnd q (Q e))
          → (why : Refusal) × (Err why ≡ replied o (tt {0})) × Q why y
      by_cases (Ok x) a h = absurd (cc)
      by_cases (Err why) a h =
          let d = err_from_is_err_and {Q = Q why} q h in
          let same : d.0 ≡ y = let both = sym d.1 ∙ e in cc in
          (why, a, subst (Q why) same d.2)

-- what stands for an element of a slice of commands past its end
abbrev pub blank : Command
blank = command.Open (record { ref_ptr = (0, 0); now = [] })

items_more : (cs : List Command) (index : ℕ) → index < length cs
    → drop index (map item cs) ≡ item (get_or cs index blank) ∷ drop (index + 1) (map item cs)
items_more cs index h =
    drop-map item index cs ∙ ap (map item) (drop_more cs index blank h)
    ∙ ap (λ (r : List Item). item (get_or cs index blank) ∷ r) (sym (drop-map item (index + 1) cs))

-- a turn of the loop over commands: what the writer answered, and what it left
module _ (was : List ℕ) (cs : List Command) (index : ℕ) (buffer : List ℕ) (len : ℕ) (far : Sofar was (map item cs) index buffer len) where
  abbrev here : Item
  here = item (get_or cs index blank)

  abbrev verdict : Option Refusal
  verdict = append_refusal (length buffer) len here

  pub turn_more : (buffer2 : List ℕ) (len2 : ℕ) → index < length cs → None ≡ verdict
      → buffer2 ≡ unless_refused verdict buffer (overwritten buffer len (bytes here)) → len2 ≡ unless_refused verdict len (len + length (bytes here))
      → Sofar was (map item cs) (index + 1) buffer2 len2
  turn_more buffer2 len2 h none after stop =
      let more = sofar_more was (map item cs) index buffer len far here (items_more cs index h) none in
      let after2 : buffer2 ≡ overwritten buffer len (bytes here) = after ∙ ap (λ (o : Option Refusal). unless_refused o buffer (overwritten buffer len (bytes here))) (sym none) in
      let stop2 : len2 ≡ len + length (bytes here) = stop ∙ ap (λ (o : Option Refusal). unless_refused o len (len + length (bytes here))) (sym none) in
      subst (λ (b : List ℕ). Sofar was (map item cs) (index + 1) b len2) (sym after2)
      (subst (λ (n : ℕ). Sofar was (map item cs) (index + 1) (overwritten buffer len (bytes here)) n) (sym stop2) more)

  pub turn_refused : (why : Refusal) (buffer2 : List ℕ) → index < length cs → Err why ≡ replied verdict (tt {0})
      → buffer2 ≡ unless_refused verdict buffer (overwritten buffer len (bytes here))
      → (Err (record { why = why; offset = len }) ≡ written (write_list (length was) (map item cs))) × (buffer2 ≡ overwritten was 0 (write_list (length was) (map item cs)).wrote)
  turn_refused why buffer2 h err after =
      let some = reply_err verdict why err in
      let room : Some why ≡ append_refusal (length was) len here = some ∙ ap (λ (n : ℕ). append_refusal n len here) far.same_length in
      let rest = drop (index + 1) (map item cs) in
      let last : write_on (length was) len (drop index (map item cs)) ≡ record { wrote = []; ended = Some (record { why = why; offset = len }) } =
      ap (write_on (length was) len) (items_more cs index h)
      ∙ ap (λ (o : Option Refusal). after_append len o (bytes here) (write_on (length was) (len + length (bytes here)) rest)) (sym room) in
      let done = sofar_done was (map item cs) index buffer len far (Some (record { why = why; offset = len })) last in
      (done.0, after ∙ sym (kept verdict why buffer _ err) ∙ done.1)

  pub turn_all : length cs ≤ index
      → (Ok len ≡ written (write_list (length was) (map item cs))) × (buffer ≡ overwritten was 0 (write_list (length was) (map item cs)).wrote)
  turn_all h =
      sofar_done was (map item cs) index buffer len far None
      (ap (write_on (length was) len) (drop-map item index cs ∙ ap (map item) (drop_all index cs h)))
