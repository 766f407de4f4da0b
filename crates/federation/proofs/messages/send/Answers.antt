use Rattle.std.proofs.Common.{◌≡◌, ℕ, Result, ap, ◌∙◌}
use Rattle.refusal.specs.declared.Refusal.{Refusal}
use Rattle.store.specs.Table.{Model}
use Rattle.law.specs.declared.Sent.{Sent}
use Rattle.refusal.specs.Answers.{replied}
use Rattle.law.specs.Book.{Cluster as Group, number, entry}
use Rattle.law.specs.Messages.{send_refusal, sent}
use Rattle.book.specs.View.{view, bare}
use Rattle.federation.proofs.Allowed.{done, tells}
use Rattle.federation.proofs.messages.send.Goals as goal

pub returns : goal.returns
returns c =
    let b = c.args.book.now in
    let none = c.in_ok-may_send.ensures.accepts in
    let i = c.args.from in
    let j = c.args.to in
    let n-is : entry c.cluster.result.now.row c.from-i.result ≡ number (bare b) i =
    ap (λ (x : Group). entry x.row c.from-i.result) c.cluster.ensures ∙ ap (λ (k : ℕ). number (bare b) k) c.from-i.ensures in
    record {
      answer = λ m. tells (send_refusal (view b m) i j) (record { id = b.next_id; number = entry c.cluster.result.now.row c.from-i.result }) none ∙ ap (λ (n : ℕ). replies m n) n-is;
      after = λ m. c.log_message.ensures m ∙ done (send_refusal (view b m) i j) (view b m) (sent (view b m) i j c.args.word) none;
    }
  where
    replies : Model → ℕ → Result Sent Refusal
    replies m n = replied (send_refusal (view c.args.book.now m) c.args.from c.args.to) (record { id = c.args.book.now.next_id; number = n })
