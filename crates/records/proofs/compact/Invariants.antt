-- records moved so far
use Rattle.records.proofs.Compacting.{Moved}
use Rattle.records.proofs.compact.Given as goal

abbrev pub invariant-loop-record : goal.invariant-loop-record
invariant-loop-record l = Moved l.initial.bytes l.initial.held l.record-index l.bytes l.held l.end
