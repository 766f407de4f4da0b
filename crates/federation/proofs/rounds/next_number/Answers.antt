use Rattle.std.proofs.Common.{◌≡◌, ℕ, ◌<◌, true, refl, ap, ◌∙◌, arith}
use Rattle.law.specs.Book.{Cluster as Group, number, entry, last_number}
use Rattle.book.specs.View.{bare}
use Rattle.book.proofs.Rising.{can_end_lem}
use Rattle.federation.proofs.Allowed.{open_ends}
use Rattle.federation.proofs.rounds.next_number.Goals as goal

number_is : (c : goal.After-result-1) → entry c.cluster.result.now.row c.from-i.result ≡ number (bare c.args.book.now) c.args.cluster
number_is c = ap (λ (x : Group). entry x.row c.from-i.result) c.cluster.ensures ∙ ap (λ (i : ℕ). number (bare c.args.book.now) i) c.from-i.ensures

pub overflow_add-result : goal.overflow_add-result
overflow_add-result c =
    let ends : number (bare c.args.book.now) c.args.cluster < last_number = (can_end_lem true _ _ refl (open_ends c.args.book.now c.args.cluster c.requires.within c.requires.opened)).1 in
    let is : entry c.cluster.result.now.row c.from-i.result ≡ number (bare c.args.book.now) c.args.cluster = number_is c in
    omega arith
