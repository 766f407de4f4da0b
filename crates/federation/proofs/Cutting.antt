-- Cutting the clusters leaves the log as it was; a log that has lost messages or receipts leaves the book sound; and nothing kept
-- grows in number.
use Rattle.std.proofs.Common.{◌≡◌, ℕ, zero, suc, ◌+◌, ◌-◌, ◌*◌, ◌≤◌, true, ltb, leb, List, [], ◌∷◌, map, length, sum_by, get_or, take, set, None, vec_items, vec_len, vec_capacity, sym, refl, ap, ◌∙◌, ap₂, arith}
use Rattle.std.specs.Global.{Vec}
use Rattle.std.proofs.lemmas.List.Sums.{sum_by-cons}
use Rattle.store.specs.Table.{Model}
use Rattle.std.specs.Ordering.{nat_cmp}
use Rattle.ordered.specs.Seek.{ascending}
use Rattle.law.specs.declared.Logged.{Logged}
use Rattle.law.specs.Book.{Book as Shown, Cluster as Group, at, count, nobody, with_log, with_restart, most_messages}
use Rattle.law.specs.Restarts.{back, back_to, log_back, resumed_to}
use Rattle.law.specs.Trials.{from, from_bounds, log_from, bounds, kept_in, collected, Collected as Spent}
use Rattle.law.proofs.Prune.{prune-log, length_kept}
use Rattle.book.specs.declared.cluster.Cluster.{Cluster}
use Rattle.book.specs.declared.book.Book.{Book}
use Rattle.book.specs.Rules.{id_of, ids_below, addressed}
use Rattle.book.specs.View.{group, view, groups}
use Rattle.book.proofs.Groups.{shown_len}
use Rattle.federation.specs.Collecting.{spent}
use Rattle.pruning.proofs.LogStays.{log-back-ascends, log-back-below, log-back-addressed, log-back-short, log_from_ascends, log_from_below, log_from_addressed, log_from_short}

-- what is left of a log is as ordered and addressed as the log was
pub record Left (ms left : List Logged) : Type 0 where
  pub short : length left ≤ length ms
  pub ascends : ascending nat_cmp id_of ms ≡ true → ascending nat_cmp id_of left ≡ true
  pub below : (next : ℕ) → ids_below next ms ≡ true → ids_below next left ≡ true
  pub addressed : (n : ℕ) → addressed n ms ≡ true → addressed n left ≡ true

pub back-left : (ps : List ℕ) (ms : List Logged) → Left ms (log_back ps ms)
back-left ps ms = record { short = log-back-short ps ms; ascends = log-back-ascends ps ms; below = log-back-below ps ms; addressed = log-back-addressed ps ms }

pub from_left : (bs : List ℕ) (ms : List Logged) → Left ms (log_from bs ms)
from_left bs ms = record { short = log_from_short bs ms; ascends = log_from_ascends bs ms; below = log_from_below bs ms; addressed = log_from_addressed bs ms }

-- what holds of a log, as the book has to keep it
pub record Fit (clusters next : ℕ) (log : Vec Logged) : Type 0 where
  pub room : most_messages ≤ vec_capacity log
  pub short : vec_len log ≤ most_messages
  pub ascends : ascending nat_cmp id_of (vec_items log) ≡ true
  pub below : ids_below next (vec_items log) ≡ true
  pub addressed : addressed clusters (vec_items log) ≡ true

pub fit-left : (b : Book) (log : Vec Logged) (left : List Logged) → vec_capacity log ≡ vec_capacity b.log → vec_items log ≡ left → Left (vec_items b.log) left → Fit (vec_len b.clusters) b.next_id log
fit-left b log left cap items l =
    let room = b.room in
    let short = b.short in
    let fewer = l.short in
    let len = b.log.ok.0 in
    let len' = log.ok.0 in
    let many = ap length items in
    record {
      room = omega arith;
      short = omega arith;
      ascends = ap (λ (z : List Logged). ascending nat_cmp id_of z) items ∙ l.ascends b.ascends;
      below = ap (ids_below b.next_id) items ∙ l.below b.next_id b.below;
      addressed = ap (addressed (vec_len b.clusters)) items ∙ l.addressed (vec_len b.clusters) b.addressed;
    }

abbrev pub spent_of : List ℕ → ℕ → ℕ → Spent
spent_of bs checkpoints messages = record { bounds = bs; checkpoints = checkpoints; messages = messages }

pub back-log : (ps : List ℕ) (k : ℕ) (b : Shown) → (back_to ps k b).log ≡ b.log
back-log ps k b = prune-log (λ j. back (get_or ps j 0)) (λ j n. ltb (get_or ps j 0) n) b k

pub from_log : (bs : List ℕ) (k : ℕ) (b : Shown) → (from_bounds bs k b).log ≡ b.log
from_log bs k b = prune-log (λ j. from (get_or bs j 0)) (λ j n. ltb n (get_or bs j 0)) b k

pub back_items : (ps : List ℕ) (b mid : Book) (m m' : Model) → view mid m' ≡ back_to ps (vec_len b.clusters) (view b m) → vec_items mid.log ≡ vec_items b.log
back_items ps b mid m m' cut = ap (λ (v : Shown). v.log) cut ∙ back-log ps (vec_len b.clusters) (view b m)

-- the clusters were cut, and the log with them
pub resumed-view : (ps : List ℕ) (b mid : Book) (m m' : Model) → view mid m' ≡ back_to ps (vec_len b.clusters) (view b m) → with_restart (with_log (view mid m') (log_back ps (vec_items mid.log))) None ≡ resumed_to ps (view b m)
resumed-view ps b mid m m' cut =
    ap (λ (v : Shown). with_restart (with_log v (log_back ps v.log)) None) (cut ∙ ap (λ (n : ℕ). back_to ps n (view b m)) (sym (shown_len b m)))
    ∙ ap (λ (ms : List Logged). with_restart (with_log (back_to ps (count (view b m)) (view b m)) (log_back ps ms)) None) (back-log ps (count (view b m)) (view b m))

pub collected-view : (bs : List ℕ) (b mid : Book) (m m' : Model) → bs ≡ bounds (view b m) → view mid m' ≡ from_bounds bs (vec_len b.clusters) (view b m) → with_log (view mid m') (log_from bs (vec_items mid.log)) ≡ collected (view b m)
collected-view bs b mid m m' least cut =
    ap (λ (v : Shown). with_log v (log_from bs v.log)) (cut ∙ ap (λ (n : ℕ). from_bounds bs n (view b m)) (sym (shown_len b m)))
    ∙ ap (λ (ms : List Logged). with_log (from_bounds bs (count (view b m)) (view b m)) (log_from bs ms)) (from_log bs (count (view b m)) (view b m))
    ∙ ap (λ (z : List ℕ). with_log (from_bounds z (count (view b m)) (view b m)) (log_from z (vec_items b.log))) least

-- what was counted on the way is what a collect tells
pub collected-told : (bs : List ℕ) (n : ℕ) (b mid out : Book) (m m' : Model) → bs ≡ bounds (view b m) → n ≡ count (view b m) → view mid m' ≡ from_bounds bs (vec_len b.clusters) (view b m) → view out m' ≡ with_log (view mid m') (log_from bs (vec_items mid.log)) → spent_of (take n bs) (kept_in (groups b) - kept_in (groups mid)) (length (vec_items mid.log) - length (vec_items out.log)) ≡ spent (view b m)
collected-told bs n b mid out m m' least all cut logged =
    let after : view out m' ≡ collected (view b m) = logged ∙ collected-view bs b mid m m' least cut in
    let kept : groups mid ≡ (collected (view b m)).clusters = sym (ap (λ (v : Shown). v.clusters) logged) ∙ ap (λ (v : Shown). v.clusters) after in
    let was : vec_items mid.log ≡ vec_items b.log = ap (λ (v : Shown). v.log) cut ∙ from_log bs (vec_len b.clusters) (view b m) in
    let left : vec_items out.log ≡ (collected (view b m)).log = ap (λ (v : Shown). v.log) after in
    ap₂ (λ (k : ℕ) (z : List ℕ). spent_of (take k z) (kept_in (groups b) - kept_in (groups mid)) (length (vec_items mid.log) - length (vec_items out.log))) all least
    ∙ ap (λ (gs : List Group). spent_of (take (count (view b m)) (bounds (view b m))) (kept_in (groups b) - kept_in gs) (length (vec_items mid.log) - length (vec_items out.log))) kept
    ∙ ap₂ (λ (x y : List Logged). spent_of (take (count (view b m)) (bounds (view b m))) (kept_in (groups b) - kept_in (collected (view b m)).clusters) (length x - length y)) was left

-- a cluster with fewer checkpoints leaves no more of them in all
kept_set : (cs : List Group) (k : ℕ) (c : Group) → length c.kept ≤ length (get_or cs k nobody).kept → kept_in (set cs k c) ≤ kept_in cs
kept_set [] k c h = omega arith
kept_set (x ∷ cs) zero c h = omega arith
kept_set (x ∷ cs) (suc k) c h = let less = kept_set cs k c h in omega arith

pub from_fewer : (bs : List ℕ) (k : ℕ) (b : Shown) → kept_in (from_bounds bs k b).clusters ≤ kept_in b.clusters
from_fewer bs zero b = omega arith
from_fewer bs (suc k) b =
    let was = from_bounds bs k b in
    let one = kept_set was.clusters k (from (get_or bs k 0) (at was k)) (length_kept (λ c. leb (get_or bs k 0) c.number) (at was k).kept) in
    let rest = from_fewer bs k b in
    omega arith

-- how many checkpoints the clusters keep, and that they are few
pub kept_sum : (cs : List Cluster) → sum_by (λ c. vec_len c.kept) cs ≡ kept_in (map group cs)
kept_sum [] = refl
kept_sum (c ∷ cs) = sum_by-cons (λ x. vec_len x.kept) c cs ∙ ap₂ (λ (m n : ℕ). m + n) c.kept.ok.0 (kept_sum cs)

pub kept_few : (cs : List Cluster) → sum_by (λ c. vec_len c.kept) cs ≤ 16 * length cs
kept_few [] = omega arith
kept_few (c ∷ cs) =
    let one = c.few in
    let rest = kept_few cs in
    let all = sum_by-cons (λ x. vec_len x.kept) c cs in
    omega arith
