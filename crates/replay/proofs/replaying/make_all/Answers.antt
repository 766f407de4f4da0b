use Rattle.std.proofs.Common.{◌+◌, List, [], ◌∷◌, ◌++◌, take, vec_items, sym, subst, arith}
use Rattle.std.proofs.lemmas.List.{take_more, take_all}
use Rattle.federation.specs.Shown.{shown}
use Rattle.replay.specs.declared.exchange.Call.{Call}
use Rattle.replay.specs.declared.exchange.Exchange.{Exchange}
use Rattle.replay.specs.Replays.{Run}
use Rattle.replay.proofs.Running.{run_more}
use Rattle.replay.proofs.replaying.make_all.Goals as goal

pub loop-call-preserved : goal.loop-call-preserved
loop-call-preserved g c =
    let says = g.R.ForcingRule.says in
    let b = shown g.S.Store.model c.args.federation.now in
    let was = shown g.S.Store.model c.loop-call.federation in
    let now = shown g.S.Store.model c.make-exchange.new.federation in
    let calls = c.args.calls.now in
    let i = c.loop-call.call-index in
    let es = vec_items c.loop-call.exchanges in
    let e = c.make-exchange.result.exchange in
    let more = run_more says b was now (take i calls) es _ e c.loop-call.invariant.0 c.make-exchange.ensures in
    let inv-len = c.loop-call.invariant.1 in
    let inv-cap = c.loop-call.invariant.2 in
    let len = c.push_reserved.ensures.len in
    let cap = c.push_reserved.ensures.capacity in (
      subst (λ (l : List Exchange). Run says b (take (i + 1) calls) l now) (sym c.push_reserved.ensures.items)
          (subst (λ (l : List Call). Run says b l (es ++ (e ∷ [])) now) (sym (take_more calls i _ c.loop-call-test.true)) more),
      omega arith,
      omega arith,
    )

pub returns : goal.returns
returns g c =
    let says = g.R.ForcingRule.says in
    let b = shown g.S.Store.model c.args.federation.now in
    let now = shown g.S.Store.model c.loop-call.federation in
    subst (λ (l : List Call). Run says b l (vec_items c.loop-call.exchanges) now) (take_all c.loop-call.call-index c.args.calls.now c.loop-call-test.false) c.loop-call.invariant.0
