use Rattle.book.proofs.Delivering.{message_read, two_of}
use Rattle.federation.proofs.Allowed.{few-shown}
use Rattle.federation.proofs.messages.message_at.Goals as goal

pub returns : goal.returns
returns c =
    let b = c.args.book.now in
    let two = two_of b c.args.place c.index.result.now c.requires c.index.ensures in
    record {
      value = message_read b c.args.place c.index.result.now c.requires c.index.ensures;
      to = two.to;
      few = (few-shown b _ two.to, few-shown b _ two.from);
    }
