-- the message that enters is newer than all in the log, and goes between two clusters that exist
use Rattle.std.proofs.Common.{◌≡◌, ◌+◌, true, List, [], ◌∷◌, ◌++◌, vec_items, vec_len, sym, refl, subst, arith}
use Rattle.std.specs.Ordering.{nat_cmp}
use Rattle.ordered.specs.Seek.{ascending}
use Rattle.law.specs.declared.Logged.{Logged}
use Rattle.law.specs.Book.{entry}
use Rattle.law.specs.Messages.{undelivered}
use Rattle.book.specs.Rules.{id_of, ids_below, addressed}
use Rattle.book.proofs.Rising.{ascending_push, ids_below_lem, ids_push, addressed_push}
use Rattle.book.proofs.book.Book.log_message.Goals as goal

pub invariant_of-self : goal.invariant_of-self
invariant_of-self c =
    let b = c.args.self.now in
    let next = b.next_id in
    let log = vec_items b.log in
    let new : Logged = undelivered next c.args.from c.args.to c.args.word (entry c.index.result.now.row c.from-i.result) in
    let items : vec_items c.push_reserved.new.self ≡ log ++ (new ∷ []) = c.push_reserved.ensures.items in
    let plen = c.push_reserved.ensures.len in
    let cap = c.push_reserved.ensures.capacity in
    let room = b.room in
    let free = c.requires.free in
    record {
      noded = b.noded;
      few = b.few;
      placed = b.placed;
      room = omega arith;
      short = omega arith;
      ascends = subst (λ (l : List Logged). ascending nat_cmp id_of l ≡ true) (sym items) (ascending_push id_of log new b.ascends (ids_below_lem next log b.below));
      below = subst (λ (l : List Logged). ids_below (next + 1) l ≡ true) (sym items) (ids_push (next + 1) next log new b.below refl (omega arith));
      addressed = subst (λ (l : List Logged). addressed (vec_len b.clusters) l ≡ true) (sym items) (addressed_push (vec_len b.clusters) log new b.addressed c.requires.addressed);
    }
