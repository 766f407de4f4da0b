use Rattle.std.proofs.Common.{◌≡◌, ℕ, Option, sym, ap, ◌∙◌}
use Rattle.law.specs.Book.{Book as Shown, at, logged, with_cluster}
use Rattle.law.specs.Rounds.{saved, deliver_waiting, deliver_logged}
use Rattle.book.specs.View.{view}
use Rattle.federation.proofs.rounds.commit.Goals as goal

-- the book with the checkpoint committed
kept_at : (B K : Shown) (i j : ℕ) → i ≡ j → K ≡ with_cluster B i (saved i (at B i)) → K ≡ with_cluster B j (saved j (at B j))
kept_at B K i j e k = k ∙ ap (λ (z : ℕ). with_cluster B z (saved z (at B z))) e

pub returns-in-Some : goal.returns-in-Some
returns-in-Some c =
    let b = c.args.book.now in
    let i = c.args.cluster in
    λ m. c.deliver_logged.ensures m
    ∙ ap (λ (x : Shown). deliver_logged x (logged x.log c.in-Some.id)) (kept_at (view b m) _ _ i c.from.ensures (c.commit.ensures m))
    ∙ ap (λ (o : Option ℕ). deliver_waiting (with_cluster (view b m) i (saved i (at (view b m) i))) o) (sym c.in-Some.is)

pub returns-in_default : goal.returns-in_default
returns-in_default c =
    let b = c.args.book.now in
    let i = c.args.cluster in
    λ m. kept_at (view b m) _ _ i c.from.ensures (c.commit.ensures m)
    ∙ ap (λ (o : Option ℕ). deliver_waiting (with_cluster (view b m) i (saved i (at (view b m) i))) o) (sym c.in_default.is)
