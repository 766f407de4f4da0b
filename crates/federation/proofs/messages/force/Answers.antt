use Rattle.std.proofs.Common.{◌≡◌, ℕ, suc, Some, None, vec_items, Result, sym, ap, ◌∙◌, add-one}
use Rattle.refusal.specs.declared.Refusal.{Refusal}
use Rattle.store.specs.Table.{Model}
use Rattle.law.specs.declared.Message.{Message}
use Rattle.law.specs.declared.Round.{Round}
use Rattle.law.specs.declared.Arrived.{Arrived}
use Rattle.law.specs.declared.Arrived.TheVariants.{Forced}
use Rattle.refusal.specs.Answers.{replied}
use Rattle.law.specs.Book.{Cluster as Group, at, number, entry, with_cluster, with_round}
use Rattle.law.specs.Messages.{round_refusal, new_round, open_round}
use Rattle.book.specs.Logs.{message_at}
use Rattle.book.specs.View.{view, bare}
use Rattle.federation.proofs.Allowed.{done, tells}
use Rattle.federation.proofs.messages.force.Goals as goal

pub returns : goal.returns
returns c =
    let b = c.args.book.now in
    let M = message_at (vec_items b.log) c.args.place in
    let is = c.message_at-message.ensures.value in
    let to_is : c.from-to.result ≡ M.to = c.from-to.ensures ∙ ap (λ (x : Message). x.to) is in
    let none : round_refusal (bare b) M.to ≡ None = ap (round_refusal (bare b)) (sym to_is) ∙ c.in_ok-may_open.ensures.accepts in
    let n = entry c.cluster.result.now.row c.from-to.result in
    let n-is : n ≡ number (bare b) M.to = ap (λ (x : Group). entry x.row c.from-to.result) c.cluster.ensures ∙ ap (λ (k : ℕ). number (bare b) k) to_is in
    record {
      answer = λ m. tells (round_refusal (view b m) M.to) (Forced _) none ∙ ap (λ (k : ℕ). replies m k) (add-one n ∙ ap suc n-is);
      after = λ m. c.set_round.ensures m
          ∙ ap (λ (r : Round). with_cluster (view b m) c.from-to.result (with_round (at (view b m) c.from-to.result) (Some r))) (c.new_round.ensures ∙ ap (λ (x : Message). new_round c.args.rank (Some x.id)) is)
          ∙ ap (λ (k : ℕ). open_round (view b m) k c.args.rank (Some M.id)) to_is
          ∙ done (round_refusal (view b m) M.to) (view b m) _ none;
    }
  where
    replies : Model → ℕ → Result Arrived Refusal
    replies m k = replied (round_refusal (view c.args.book.now m) (message_at (vec_items c.args.book.now.log) c.args.place).to) (Forced k)
