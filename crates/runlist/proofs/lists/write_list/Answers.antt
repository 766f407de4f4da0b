use Rattle.std.proofs.Common.{◌≡◌, ℕ, map, length, Ok, Err, ap, ◌∙◌, arith, rules}
use Rattle.std.proofs.lemmas.Result.{err_from_is_err_and}
use Rattle.runlist.specs.Format.{item}
use Rattle.runlist.proofs.RoundTrip.{read_again, round_trip}
use Rattle.runlist.proofs.Writing.{turn_more, turn_refused, turn_all, mapped_ok, mapped_err}
use Rattle.runlist.proofs.lists.write_list.Goals as goal

pub loop-command-preserved : goal.loop-command-preserved
loop-command-preserved c =
    let w = c.loop-command.writer in
    let none = mapped_ok _ _ _ c.in_ok-map_err.field-0 c.append.ensures.answer c.map_err.ensures.variant c.in_ok-map_err.was in (
      turn_more c.args.buffer.now c.args.commands.now c.loop-command.command-index w.buffer.now w.len c.loop-command.invariant.0
          c.append.new.self.buffer.now c.append.new.self.len (omega arith) none c.append.ensures.buffer c.append.ensures.len,
      c.append.ensures.lent ∙ c.loop-command.invariant.1,
    )

pub returns-in_err-map_err : goal.returns-in_err-map_err
returns-in_err-map_err c =
    let w = c.loop-command.writer in
    let p = err_from_is_err_and c.from_residual.result c.from_residual.ensures.1 in
    let f = mapped_err _ _ _ c.in_err-map_err.field-0.0 _ c.append.ensures.answer c.in_err-map_err.was c.map_err.ensures.cases in
    let here : c.in_err-map_err.field-0.0 ≡ record { why = f.0; offset = c.len-offset.result } = search rules in
    let done =
    turn_refused c.args.buffer.now c.args.commands.now c.loop-command.command-index w.buffer.now w.len c.loop-command.invariant.0
    f.0 c.append.new.self.buffer.now (omega arith) f.1 c.append.ensures.buffer in
    record {
      answer = p.1 ∙ ap Err (p.2 ∙ here) ∙ ap (λ (n : ℕ). Err (record { why = f.0; offset = n })) c.len-offset.ensures ∙ done.0;
      after = search rules;
      back = search rules;
      law = round_trip;
    }

pub returns : goal.returns
returns c =
    let was = c.args.buffer.now in
    let cs = c.args.commands.now in
    let w = c.loop-command.writer in
    let done = turn_all was cs c.loop-command.command-index w.buffer.now w.len c.loop-command.invariant.0 (omega arith) in
    let told = ap Ok c.len.ensures ∙ done.0 in
    record {
      answer = told;
      after = search rules;
      back = read_again (length was) (map item cs) was c.len.result told (search rules);
      law = round_trip;
    }
