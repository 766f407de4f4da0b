use Rattle.std.proofs.Common.{◌≡◌, ◌≤◌, length, take, vec_items, vec_len, vec_capacity}
use Rattle.federation.specs.Shown.{shown}
use Rattle.replay.specs.Replays.{Run}
use Rattle.replay.proofs.replaying.make_all.Given as goal

abbrev pub invariant-loop-call : goal.invariant-loop-call
invariant-loop-call g l =
    Run g.R.ForcingRule.says (shown g.S.Store.model l.initial.federation) (take l.call-index l.calls) (vec_items l.exchanges) (shown g.S.Store.model l.federation)
    × (vec_len l.exchanges ≡ l.call-index)
    × (length l.calls ≤ vec_capacity l.exchanges)
