use Rattle.std.proofs.Common.{◌<◌, vec_len, rules}
use Rattle.book.proofs.Delivering.{two_of}
use Rattle.federation.proofs.messages.arrivable.Goals as goal

pub round_open-requires : goal.round_open-requires
round_open-requires c =
    let b = c.args.book.now in
    let len = b.log.ok.0 in
    let within : c.in_ok-place.place < vec_len b.log = search rules in
    (two_of b c.in_ok-place.place c.index.result.now within c.index.ensures).to
