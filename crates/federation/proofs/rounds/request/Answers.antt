use Rattle.std.proofs.Common.{◌≡◌, ℕ, ◌<◌, true, length, Some, vec_len, Result, sym, ap, ◌∙◌, subst, ap₂}
use Rattle.refusal.specs.declared.Refusal.{Refusal}
use Rattle.store.specs.Table.{Model}
use Rattle.refusal.specs.Answers.{replied}
use Rattle.law.specs.declared.Round.{Round}
use Rattle.law.specs.Book.{Cluster as Group, at, number, with_cluster, with_round}
use Rattle.law.specs.Rounds.{request_refusal, requested}
use Rattle.book.specs.Rules.{can_end}
use Rattle.book.specs.View.{view, bare}
use Rattle.federation.proofs.Allowed.{request_allowed, within, may_open, done, tells}
use Rattle.federation.proofs.rounds.request.Goals as goal

pub set_round-requires : goal.set_round-requires
set_round-requires c =
    let b = c.args.book.now in
    let ok = request_allowed (bare b) c.args.cluster c.args.rank (c.in_ok-may_request.ensures.accepts) in
    record {
      within = subst (λ (i : ℕ). i < vec_len b.clusters) (sym c.from-i.ensures) (within b c.args.cluster ok.0);
      ends = subst (λ (i : ℕ). can_end true (length (at (bare b) i).kept) (number (bare b) i) ≡ true) (sym c.from-i.ensures) (may_open b c.args.cluster ok.0 ok.1);
    }

pub returns : goal.returns
returns c =
    let b = c.args.book.now in
    let i = c.args.cluster in
    let rank = c.args.rank in
    let none = c.in_ok-may_request.ensures.accepts in
    let round : Round = requested rank (at (bare b) i).round in
    let round_is : c.requested-round.result ≡ round =
    c.requested-round.ensures ∙ ap (λ (x : Group). requested rank x.round) c.cluster.ensures ∙ ap (λ (k : ℕ). requested rank (at (bare b) k).round) c.from-i.ensures in
    record {
      answer = λ m. tells (request_refusal (view b m) i rank) c.requested-round.result.initiator none ∙ ap (λ (r : Round). replies m r.initiator) round_is;
      after = λ m. c.set_round.ensures m
          ∙ ap₂ (λ (k : ℕ) (r : Round). with_cluster (view b m) k (with_round (at (view b m) k) (Some r))) c.from-i.ensures round_is
          ∙ done (request_refusal (view b m) i rank) (view b m) _ none;
    }
  where
    replies : Model → ℕ → Result ℕ Refusal
    replies m n = replied (request_refusal (view c.args.book.now m) c.args.cluster c.args.rank) n
