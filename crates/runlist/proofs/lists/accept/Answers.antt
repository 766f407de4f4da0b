use Rattle.std.proofs.Common.{◌+◌, ◌≤◌, Some, Ok, length, rules}
use Rattle.runlist.specs.declared.reader.Placed.{Placed}
use Rattle.runlist.specs.Lists.{read_list}
use Rattle.runlist.specs.Reads.{to_come, Step, given}
use Rattle.runlist.proofs.Reading.{counted_turns, counted_none, counted_room, counted_end}
use Rattle.runlist.proofs.lists.accept.Goals as goal

pub try_fold-requires-clause-callable : goal.try_fold-requires-clause-callable
try_fold-requires-clause-callable c = record {
  at = λ xs t q x u y f k.
      let n = counted_turns _ (λ p. p.1) (λ p x q h. search rules) (λ p e q h. search rules) (read_list c.args.list.now) xs c.new.result t _ q (counted_none c.args.list.now _ c.new.ensures) y f in
      let room : (p : Placed) → Step (to_come t) (given (Some (Ok p))) (to_come u) → q.1 + 1 ≤ length c.args.list.now = λ p s. counted_room c.args.list.now _ _ q.1 p n s in
      search rules;
}

pub returns : goal.returns
returns c =
    let r = c.try_fold.ensures.ran in
    let n = counted_turns _ (λ p. p.1) (λ p x q h. search rules) (λ p e q h. search rules) (read_list c.args.list.now) r.0 c.new.result r.4.0 _ _ (counted_none c.args.list.now _ c.new.ensures) r.4.1 r.5 in
    counted_end (read_list c.args.list.now) (to_come r.4.0) _ r.3 c.try_fold.result r.1 _ _ (λ m. search rules) (λ p m. search rules) (λ e m. search rules) n r.4.2 r.6
