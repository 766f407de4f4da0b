-- a word that is not the last
use Rattle.std.proofs.Common.{◌≡◌, ℕ, ◌-◌, false, eqb, take, set, Some, None, Ok, Option, Result, sym, ap, ◌∙◌, ap₂, arith}
use Rattle.std.proofs.lemmas.Bool.{cond-false, ne_eqb}
use Rattle.refusal.specs.declared.Refusal.{Refusal}
use Rattle.law.specs.declared.Noted.{Noted}
use Rattle.law.specs.declared.Noted.TheVariants.{Missing}
use Rattle.law.specs.declared.Round.{Round}
use Rattle.refusal.specs.Answers.{unless_refused, replied}
use Rattle.law.specs.Book.{Book as Shown, at, with_cluster, with_round}
use Rattle.law.specs.Rounds.{missing as lacking, noted, notes, answer_keeps, answered, answered_tells}
use Rattle.federation.specs.Shown.{shown}
use Rattle.federation.proofs.federation.Federation.note_word.Goals as goal

pub returns : goal.returns
returns g c =
    let f = c.args.self.now in
    let b = shown g.S.Store.model f in
    let i = c.args.cluster in
    let r = c.args.round in
    let ws = noted b r c.args.rank c.args.word in
    let round_is : c.with_word-round.result ≡ record { initiator = r.initiator; answers = set r.answers c.args.rank (Some c.args.word); waiting = r.waiting } =
    c.with_word-round.ensures ∙ ap (λ (k : ℕ). with_at k) c.from.ensures in
    let nodes_is : c.from-nodes.result - 0 ≡ b.nodes = let e = c.from-nodes.ensures in let k = c.nodes.ensures.value in omega arith in
    let ws-is : take (c.from-nodes.result - 0) c.with_word-round.result.answers ≡ ws = ap₂ (λ (k : ℕ) (x : Round). take k x.answers) nodes_is round_is in
    let left_is : c.missing-left.result ≡ lacking ws = c.missing-left.ensures ∙ ap lacking ws-is in
    let not_last : eqb (lacking ws) 0 ≡ false = ne_eqb (lacking ws) 0 (λ e. c.if-left-eq0.false (left_is ∙ e)) in
    let verdict : answer_keeps b i ws ≡ None = cond-false (eqb (lacking ws) 0) _ _ not_last in
    let telling : answered_tells b i c.args.rank c.args.word (Some r) ≡ Missing (lacking ws) = cond-false (eqb (lacking ws) 0) _ _ not_last in
    let leaving : answered b i c.args.rank c.args.word (Some r) ≡ notes b i r c.args.rank c.args.word = cond-false (eqb (lacking ws) 0) _ _ not_last in
    record {
      answer = ap (λ (k : ℕ). says k) left_is ∙ sym (ap₂ (λ (o : Option Refusal) (v : Noted). replied o v) verdict telling);
      after = c.note.ensures b.store
          ∙ ap (λ (x : Round). with_cluster b i (with_round (at b i) (Some x))) round_is
          ∙ sym (ap₂ (λ (o : Option Refusal) (k : Shown). unless_refused o b k) verdict leaving);
    }
  where
    says : ℕ → Result Noted Refusal
    says k = Ok (Missing k)

    with_at : ℕ → Round
    with_at k = record { initiator = c.args.round.initiator; answers = set c.args.round.answers k (Some c.args.word); waiting = c.args.round.waiting }
