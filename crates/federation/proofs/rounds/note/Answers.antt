use Rattle.std.proofs.Common.{◌≡◌, ℕ, ◌<◌, true, length, Some, vec_len, sym, ap, ◌∙◌, subst}
use Rattle.law.specs.Book.{at, number, with_cluster, with_round}
use Rattle.book.specs.Rules.{can_end}
use Rattle.book.specs.View.{view, bare}
use Rattle.federation.proofs.Allowed.{open_ends}
use Rattle.federation.proofs.rounds.note.Goals as goal

pub set_round-requires : goal.set_round-requires
set_round-requires c =
    let b = c.args.book.now in
    record {
      within = subst (λ (i : ℕ). i < vec_len b.clusters) (sym c.from.ensures) c.requires.within;
      ends = subst (λ (i : ℕ). can_end true (length (at (bare b) i).kept) (number (bare b) i) ≡ true) (sym c.from.ensures) (open_ends b c.args.cluster c.requires.within c.requires.opened);
    }

pub returns : goal.returns
returns c =
    λ m. c.set_round.ensures m ∙ ap (λ (i : ℕ). with_cluster (view c.args.book.now m) i (with_round (at (view c.args.book.now m) i) (Some c.args.round))) c.from.ensures
