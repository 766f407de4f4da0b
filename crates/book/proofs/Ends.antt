-- A round that is open in a book can end, as the book shows it.
use Rattle.std.proofs.Common.{◌≡◌, ℕ, ◌<◌, true, length, get_or, is_some, vec_items, vec_len, subst, ◌∙◌, arith}
use Rattle.law.specs.Book.{Cluster as Group, nobody, entry}
use Rattle.book.specs.declared.book.Book.{Book}
use Rattle.book.specs.Rules.{can_end}
use Rattle.book.specs.View.{groups}
use Rattle.book.proofs.Groups.{group_at}
use Rattle.book.proofs.Placing.{own_at, read_at}

pub shown-ends : (b : Book) (i : ℕ) → i < vec_len b.clusters → can_end (is_some (get_or (groups b) i nobody).round) (length (get_or (groups b) i nobody).kept) (entry (get_or (groups b) i nobody).row i) ≡ true
shown-ends b i within =
    let len = b.clusters.ok.0 in
    let inside : i < length (vec_items b.clusters) = omega arith in
    let it = read_at (vec_items b.clusters) i inside in
    let own : it.0.own ≡ i = own_at 0 (vec_items b.clusters) i it.0 b.placed inside it.1 ∙ omega arith in
    subst (λ (g : Group). can_end (is_some g.round) (length g.kept) (entry g.row i) ≡ true) (group_at (vec_items b.clusters) i it.0 inside it.1)
    (subst (λ (z : ℕ). can_end (is_some it.0.round) z (entry it.0.row i) ≡ true) it.0.kept.ok.0
    (subst (λ (z : ℕ). can_end (is_some it.0.round) (vec_len it.0.kept) (entry it.0.row z) ≡ true) own it.0.ends))
