use Rattle.std.proofs.Common.{◌≡◌, map}
use Rattle.runlist.specs.Format.{item}
use Rattle.runlist.proofs.Writing.{Sofar}
use Rattle.runlist.proofs.lists.write_list.Given as goal

abbrev pub invariant-loop-command : goal.invariant-loop-command
invariant-loop-command l =
    Sofar l.fn.buffer (map item l.commands) l.command-index l.writer.buffer.now l.writer.len
    × (l.writer.buffer.ghost_name ≡ l.initial.writer.buffer.ghost_name)
