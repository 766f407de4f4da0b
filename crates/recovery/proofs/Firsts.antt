-- The searches of a restart, one place further on: what is left gives the whole.
use Rattle.std.proofs.Common.{◌≡◌, ℕ, suc, ◌+◌, ◌<◌, Bool, true, false, cond, ltb, List, [], ◌∷◌, length, reverse, get_or, drop, Some, None, Option, sym, refl, ap, ap₂, ◌∙◌, arith}
use Rattle.std.specs.List.{find, position, position_or_len}
use Rattle.std.specs.Option.{option_map, option_or}
use Rattle.std.proofs.lemmas.List.Folds.{find-append}
use Rattle.std.proofs.lemmas.Grind.{reverse_onto}
use Rattle.std.proofs.lemmas.List.{at_drop_more}
use Rattle.std.proofs.lemmas.Bool.{cond-true, lt-ltb}
use Rattle.store.specs.Table.{both}
use Rattle.law.specs.declared.Checkpoint.{Checkpoint}
use Rattle.law.specs.declared.Alerts.{Alerts}
use Rattle.law.specs.Book.{entry}
use Rattle.book.specs.Rules.{number_of}
use Rattle.law.specs.Restarts.{latest, first_true, first_waiting, pair_with}

-- had not heard of what is undone, and is below the place
abbrev pub before : ℕ → ℕ → ℕ → Checkpoint → Bool
before i s p c = both (ltb c.number p) (ltb (entry c.row i) s)

-- the last that fits is the first from behind
one_more : (c : Checkpoint) (a : Option Checkpoint) (t : Bool) (found : Option ℕ) → option_or (option_map number_of (option_or a (cond t (Some c) None))) found ≡ option_or (option_map number_of a) (cond t (Some c.number) found)
one_more c (Some x) t found = refl
one_more c None true found = refl
one_more c None false found = refl

latest_from : (i s p : ℕ) (cs : List Checkpoint) (found : Option ℕ) → option_or (option_map number_of (find (before i s p) (reverse cs))) found ≡ latest i s p cs found
latest_from i s p [] found = refl
latest_from i s p (c ∷ cs) found =
    ap (λ (l : List Checkpoint). option_or (option_map number_of (find (before i s p) l)) found) (reverse_onto cs c [])
    ∙ ap (λ (o : Option Checkpoint). option_or (option_map number_of o) found) (find-append (before i s p) (reverse cs) (c ∷ []))
    ∙ one_more c (find (before i s p) (reverse cs)) (before i s p c) found
    ∙ latest_from i s p cs (cond (before i s p c) (Some c.number) found)

or_none : (o : Option ℕ) → option_or o None ≡ o
or_none (Some n) = refl
or_none None = refl

pub latest_found : (i s p : ℕ) (cs : List Checkpoint) → option_map number_of (find (before i s p) (reverse cs)) ≡ latest i s p cs None
latest_found i s p cs = sym (or_none (option_map number_of (find (before i s p) (reverse cs)))) ∙ latest_from i s p cs None

-- the place that is found, counted from k
set_from : (k : ℕ) (bs : List Bool) → first_true k bs ≡ cond (ltb (position_or_len (λ b. b) bs) (length bs)) (Some (k + position_or_len (λ b. b) bs)) None
set_from k [] = refl
set_from k (true ∷ bs) =
    let at : k + 0 ≡ k = omega arith in
    ap Some (sym at) ∙ sym (cond-true (ltb 0 (suc (length bs))) (Some (k + 0)) None (lt-ltb 0 (suc (length bs)) (omega arith)))
set_from k (false ∷ bs) =
    let m = position_or_len (λ (b : Bool). b) bs in
    let one : suc k + m ≡ k + (1 + m) = omega arith in
    let same : ltb m (length bs) ≡ ltb (1 + m) (suc (length bs)) = grind arith in
    set_from (suc k) bs ∙ ap₂ (λ (t : Bool) (n : ℕ). cond t (Some n) None) same one

pub first_set : (bs : List Bool) → position (λ b. b) bs ≡ first_true 0 bs
first_set bs =
    let m = position_or_len (λ (b : Bool). b) bs in
    let none : m ≡ 0 + m = omega arith in
    ap (λ (n : ℕ). cond (ltb m (length bs)) (Some n) None) none ∙ sym (set_from 0 bs)

-- the alerts of one cluster, before those of the clusters after it
waits_first : (ws : List Alerts) (k : ℕ) (d : Alerts) (o : Option ℕ) → k < length ws → o ≡ position (λ b. b) (get_or ws k d).to → first_waiting k (drop k ws) ≡ pair_with k o (first_waiting (suc k) (drop (k + 1) ws))
waits_first ws k d o h e =
    at_drop_more (first_waiting k) ws k d h ∙ ap (λ (z : Option ℕ). pair_with k z (first_waiting (suc k) (drop (k + 1) ws))) (sym (e ∙ first_set (get_or ws k d).to))

pub waits_here : (ws : List Alerts) (k j : ℕ) (d : Alerts) → k < length ws → Some j ≡ position (λ b. b) (get_or ws k d).to → first_waiting k (drop k ws) ≡ Some (k, j)
waits_here ws k j d h e = waits_first ws k d (Some j) h e

pub waits_more : (ws : List Alerts) (k : ℕ) (d : Alerts) → k < length ws → None ≡ position (λ b. b) (get_or ws k d).to → first_waiting (k + 1) (drop (k + 1) ws) ≡ first_waiting k (drop k ws)
waits_more ws k d h e =
    let one : k + 1 ≡ suc k = omega arith in
    ap (λ (z : ℕ). first_waiting z (drop (k + 1) ws)) one ∙ sym (waits_first ws k d None h e)
