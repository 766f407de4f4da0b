use Rattle.std.proofs.Common.{map, vec_items}
use Rattle.runlist.specs.Format.{item}
use Rattle.runlist.specs.Lists.{read_list}
use Rattle.runlist.specs.Reads.{to_come}
use Rattle.runlist.proofs.Gathering.{Gathered}
use Rattle.runlist.proofs.lists.read_list.Given as goal

abbrev pub invariant-loop-read : goal.invariant-loop-read
invariant-loop-read l =
    (goal.iterator-loop-read).can_next l.read-iterator
    × (goal.iterator-loop-read).is_finite l.read-iterator
    × Gathered (read_list l.list) (to_come l.read-iterator) (map item (vec_items l.commands))
