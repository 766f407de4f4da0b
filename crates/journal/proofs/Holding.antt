-- Records that lie where they are said to: bytes behind them do not matter, and moved together they hold the
-- same rows.
use Rattle.std.proofs.Common.{◌≡◌, ℕ, zero, suc, ◌+◌, ◌*◌, ◌<◌, ◌≤◌, false, List, [], ◌∷◌, ◌++◌, map, length, get_or, take, drop, Some, None, Option, sym, refl, ap, ◌∙◌, subst, arith}
use Rattle.std.proofs.lemmas.Bool.{cond-true, cond-false, cond_both}
use Rattle.std.proofs.lemmas.List.{append_assoc, length-append, length-take-le, length-drop, drop-append-le, take-append-le, take_at, drop_at}
use Rattle.std.specs.Option.{option_map}
use Rattle.std.specs.List.{remove as removed}
use Rattle.store.specs.Table.{TableRow, lookup, remove}
use Rattle.store.specs.Seek.{same}
use Rattle.records.specs.declared.Held.{Held}
use Rattle.records.specs.Encode.{keep_bytes, rows_bytes}
use Rattle.records.specs.Layout.{size_of, part, parts, row_from, row_in, relaid, total, Laid}
use Rattle.records.specs.Order.{held_key, first_of}
use Rattle.records.proofs.Compacting.{laid_bound}
use Rattle.records.proofs.Ordering.{first_of_next}
use Rattle.journal.specs.Places.{Lie, Few}

part_front : (bs more : List ℕ) (h : Held) → h.at + size_of h.count ≤ length bs → part (bs ++ more) h ≡ part bs h
part_front bs more h within =
    let low : h.at ≤ length bs = omega arith in
    let long : size_of h.count ≤ length (drop h.at bs) = rw length-drop (omega arith) in
    ap (take (size_of h.count)) (drop-append-le h.at bs more low) ∙ take-append-le (size_of h.count) (drop h.at bs) more long

part_length : (bs : List ℕ) (h : Held) → h.at + size_of h.count ≤ length bs → length (part bs h) ≡ size_of h.count
part_length bs h within =
    let long : size_of h.count ≤ length (drop h.at bs) = rw length-drop (omega arith) in
    length-take-le (size_of h.count) (drop h.at bs) long

-- the same records, wherever they lie
abbrev pub Same : List ℕ → List Held → List ℕ → List Held → Type 0
Same a [] b [] = Unit {0}
Same a [] b (y ∷ ys) = ⊥
Same a (x ∷ xs) b [] = ⊥
Same a (x ∷ xs) b (y ∷ ys) =
    (◌≡◌ {A = List ℕ → TableRow} (row_from x) (row_from y)) × (x.count ≡ y.count) × (part a x ≡ part b y) × Same a xs b ys

same_row : (a : List ℕ) (x : Held) (b : List ℕ) (y : Held) → ◌≡◌ {A = List ℕ → TableRow} (row_from x) (row_from y) → part a x ≡ part b y → row_in a x ≡ row_in b y
same_row a x b y e p = ap (λ (f : List ℕ → TableRow). f (part a x)) e ∙ ap (row_from y) p

pub same_rows : (a : List ℕ) (xs : List Held) (b : List ℕ) (ys : List Held) → Same a xs b ys → map (row_in a) xs ≡ map (row_in b) ys
same_rows a [] b [] s = refl
same_rows a [] b (y ∷ ys) s = absurd s
same_rows a (x ∷ xs) b [] s = absurd s
same_rows a (x ∷ xs) b (y ∷ ys) s =
    ap (λ r. r ∷ map (row_in a) xs) (same_row a x b y s.0 s.2) ∙ ap (λ rs. row_in b y ∷ rs) (same_rows a xs b ys s.3)

pub same_lie : (a : List ℕ) (xs : List Held) (b : List ℕ) (ys : List Held) → Same a xs b ys → Lie b ys → Lie a xs
same_lie a [] b [] s l = tt
same_lie a [] b (y ∷ ys) s l = absurd s
same_lie a (x ∷ xs) b [] s l = absurd s
same_lie a (x ∷ xs) b (y ∷ ys) s l =
    (s.2 ∙ l.0 ∙ ap keep_bytes (sym (same_row a x b y s.0 s.2)), same_lie a xs b ys s.3 l.1)

pub same_few : (a : List ℕ) (xs : List Held) (b : List ℕ) (ys : List Held) → Same a xs b ys → Few ys → Few xs
same_few a [] b [] s f = tt
same_few a [] b (y ∷ ys) s f = absurd s
same_few a (x ∷ xs) b [] s f = absurd s
same_few a (x ∷ xs) b (y ∷ ys) s f = (omega (arith, s.1, f.0), same_few a xs b ys s.3 f.1)

-- more bytes behind them
pub same_more : (bs more : List ℕ) (from : ℕ) (hs : List Held) → Laid from hs (length bs) → Same (bs ++ more) hs bs hs
same_more bs more from [] l = tt
same_more bs more from (h ∷ hs) l =
    (refl, refl, part_front bs more h (laid_bound (h.at + size_of h.count) hs (length bs) l.1), same_more bs more (h.at + size_of h.count) hs l.1)

-- moved together
pub same_relaid : (bs : List ℕ) (from : ℕ) (hs : List Held) (after front : List ℕ) (at : ℕ) → Laid from hs (length bs) → length front ≡ at → after ≡ front ++ parts bs hs → Same after (relaid at hs) bs hs
same_relaid bs from [] after front at l long e = tt
same_relaid bs from (h ∷ hs) after front at l long e =
    let p = part bs h in
    let size = part_length bs h (laid_bound (h.at + size_of h.count) hs (length bs) l.1) in
    let longer : length (front ++ p) ≡ at + size_of h.count = let sum = length-append front p in omega arith in (
      refl,
      refl,
      ap (λ (xs : List ℕ). take (size_of h.count) (drop at xs)) e
          ∙ ap (take (size_of h.count)) (drop_at front (p ++ parts bs hs) at long)
          ∙ take_at p (parts bs hs) (size_of h.count) size,
      same_relaid bs (h.at + size_of h.count) hs after (front ++ p) (at + size_of h.count) l.1 longer
          (e ∙ sym (append_assoc front p (parts bs hs))),
    )

pub parts_front : (bs more : List ℕ) (from : ℕ) (hs : List Held) → Laid from hs (length bs) → parts (bs ++ more) hs ≡ parts bs hs
parts_front bs more from [] l = refl
parts_front bs more from (h ∷ hs) l =
    ap (λ p. p ++ parts (bs ++ more) hs) (part_front bs more h (laid_bound (h.at + size_of h.count) hs (length bs) l.1))
    ∙ ap (λ ps. part bs h ++ ps) (parts_front bs more (h.at + size_of h.count) hs l.1)

pub parts_rows : (bs : List ℕ) (hs : List Held) → Lie bs hs → parts bs hs ≡ rows_bytes (map (row_in bs) hs)
parts_rows bs [] l = refl
parts_rows bs (h ∷ hs) l =
    ap (λ p. p ++ parts bs hs) l.0 ∙ ap (λ ps. keep_bytes (row_in bs h) ++ ps) (parts_rows bs hs l.1)

pub total-few : (hs : List Held) → Few hs → total hs ≤ 263 * length hs
total-few [] f = omega arith
total-few (h ∷ hs) f = let rest = total-few hs f.1 in omega (arith, f.0)

-- where records are laid
pub laid_wider : (from : ℕ) (hs : List Held) (a b : ℕ) → Laid from hs a → a ≤ b → Laid from hs b
laid_wider from [] a b l le = omega arith
laid_wider from (h ∷ hs) a b l le = (l.0, laid_wider (h.at + size_of h.count) hs a b l.1 le)

laid_earlier : (low from : ℕ) (hs : List Held) (end : ℕ) → Laid from hs end → low ≤ from → Laid low hs end
laid_earlier low from [] end l le = omega arith
laid_earlier low from (h ∷ hs) end l le = (omega (arith, l.0), l.1)

pub laid-relaid : (from : ℕ) (hs : List Held) → Laid from (relaid from hs) (from + total hs)
laid-relaid from [] = omega arith
laid-relaid from (h ∷ hs) =
    let sum : from + size_of h.count + total hs ≡ from + (size_of h.count + total hs) = omega arith in
    (omega arith, subst (λ end. Laid (from + size_of h.count) (relaid (from + size_of h.count) hs) end) sum (laid-relaid (from + size_of h.count) hs))

pub laid_push : (from : ℕ) (hs : List Held) (h : Held) → Laid from hs h.at → Laid from (hs ++ (h ∷ [])) (h.at + size_of h.count)
laid_push from [] h l = (l, omega arith)
laid_push from (x ∷ hs) h l = (l.0, laid_push (x.at + size_of x.count) hs h l.1)

pub laid_removed : (from : ℕ) (hs : List Held) (i : ℕ) (end : ℕ) → Laid from hs end → i < length hs → Laid from (removed hs i) end
laid_removed from [] i end l within = absurd (omega arith)
laid_removed from (h ∷ hs) zero end l within = laid_earlier from (h.at + size_of h.count) hs end l.1 (omega (arith, l.0))
laid_removed from (h ∷ hs) (suc i) end l within = (l.0, laid_removed (h.at + size_of h.count) hs i end l.1 (omega arith))

pub lie_push : (bs : List ℕ) (hs : List Held) (h : Held) → Lie bs hs → part bs h ≡ keep_bytes (row_in bs h) → Lie bs (hs ++ (h ∷ []))
lie_push bs [] h l e = (e, tt)
lie_push bs (x ∷ hs) h l e = (l.0, lie_push bs hs h l.1 e)

pub lie_removed : (bs : List ℕ) (hs : List Held) (i : ℕ) → Lie bs hs → i < length hs → Lie bs (removed hs i)
lie_removed bs [] i l within = absurd (omega arith)
lie_removed bs (h ∷ hs) zero l within = l.1
lie_removed bs (h ∷ hs) (suc i) l within = (l.0, lie_removed bs hs i l.1 (omega arith))

pub few_push : (hs : List Held) (h : Held) → Few hs → h.count ≤ 32 → Few (hs ++ (h ∷ []))
few_push [] h f e = (e, tt)
few_push (x ∷ hs) h f e = (f.0, few_push hs h f.1 e)

pub few_removed : (hs : List Held) (i : ℕ) → Few hs → i < length hs → Few (removed hs i)
few_removed [] i f within = absurd (omega arith)
few_removed (h ∷ hs) zero f within = f.1
few_removed (h ∷ hs) (suc i) f within = (f.0, few_removed hs i f.1 (omega arith))

-- each record lies before the end
pub laid_at : (from : ℕ) (hs : List Held) (i : ℕ) (d : Held) (end : ℕ) → Laid from hs end → i < length hs → (get_or hs i d).at + size_of (get_or hs i d).count ≤ end
laid_at from [] i d end l within = absurd (omega arith)
laid_at from (h ∷ hs) zero d end l within = laid_bound (h.at + size_of h.count) hs end l.1
laid_at from (h ∷ hs) (suc i) d end l within = laid_at (h.at + size_of h.count) hs i d end l.1 (omega arith)

-- what the place of the first record under a cluster and number tells of the rows
abbrev pub FirstHeld : List ℕ → List Held → ℕ → ℕ → Option ℕ → Type 0
FirstHeld bs hs c n None = lookup (map (row_in bs) hs) c n ≡ None
FirstHeld bs hs c n (Some i) =
    (i < length hs) × ((d : Held) → lookup (map (row_in bs) hs) c n ≡ Some (row_in bs (get_or hs i d)).words)
    × (remove (map (row_in bs) hs) c n ≡ removed (map (row_in bs) hs) i)

first_next : (bs : List ℕ) (h : Held) (hs : List Held) (c n : ℕ) (r : Option ℕ) → same c n (held_key h) ≡ false → FirstHeld bs hs c n r → FirstHeld bs (h ∷ hs) c n (option_map suc r)
first_next bs h hs c n None f s = cond-false _ _ _ f ∙ s
first_next bs h hs c n (Some i) f s =
    (omega (arith, s.0), (λ d. cond-false _ _ _ f ∙ s.1 d), cond-false _ _ _ f ∙ ap (λ rest. row_in bs h ∷ rest) s.2)

pub first_held : (bs : List ℕ) (hs : List Held) (c n : ℕ) → FirstHeld bs hs c n (first_of hs c n)
first_held bs [] c n = refl
first_held bs (h ∷ hs) c n =
    subst (FirstHeld bs (h ∷ hs) c n) (sym (first_of_next h hs c n))
    (cond_both (same c n (held_key h)) _ _ (FirstHeld bs (h ∷ hs) c n)
    (λ t. (omega arith, (λ d. cond-true _ _ _ t), cond-true _ _ _ t))
    (λ f. first_next bs h hs c n (first_of hs c n) f (first_held bs hs c n)))

-- the same of a search over the records as a slice
pub first_in : (bs : List ℕ) (hs slice : List Held) (c n : ℕ) (r : Option ℕ) → slice ≡ hs → r ≡ first_of slice c n → FirstHeld bs hs c n r
first_in bs hs slice c n r e is =
    subst (FirstHeld bs hs c n) (sym (is ∙ ap (λ (xs : List Held). first_of xs c n) e)) (first_held bs hs c n)
