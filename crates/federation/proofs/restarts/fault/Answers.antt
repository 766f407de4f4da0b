-- an accepted fault names a cluster that exists, and there is a number for one more restart
use Rattle.std.proofs.Common.{[], map, sym, ap, arith}
use Rattle.law.specs.Book.{Book as Shown}
use Rattle.book.specs.View.{view, bare, group}
use Rattle.federation.proofs.Allowed.{within, few-shown}
use Rattle.federation.proofs.Restarting.{fault_allowed, fault_says, fault_leaves}
use Rattle.federation.proofs.restarts.fault.Goals as goal

pub overflow_add-book : goal.overflow_add-book
overflow_add-book c =
    let ok = fault_allowed (bare c.args.book.now) c.args.cluster (sym c.in_ok-may_fault.ensures.accepts) in
    let same = ap (λ (x : Shown). x.restarts) (c.drop_rounds.ensures (record { table = []; capacity = 0; full = 0 })) in
    let few = ok.1 in
    omega arith

pub returns : goal.returns
returns c =
    let b = c.args.book.now in
    let none = c.in_ok-may_fault.ensures.accepts in
    let ok = fault_allowed (bare b) c.args.cluster (sym c.in_ok-may_fault.ensures.accepts) in
    let near = few-shown b c.args.cluster (within b c.args.cluster ok.0) in
    let shows = ap (map group) c.as_slice.ensures.value in
    record {
      answer = λ m. fault_says (view b m) c.args.cluster _ _ _ none c.from-i.ensures shows c.begin-restart.ensures near;
      after = λ m. fault_leaves (view b m) c.args.cluster _ _ _ none c.from-i.ensures shows c.begin-restart.ensures (view c.drop_rounds.new.self m) (c.drop_rounds.ensures m);
    }
