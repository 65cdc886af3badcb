use Rattle.std.proofs.Common.{All}
use Rattle.ring_queue.specs.Ends.{HasToken, HasGathered}
use Rattle.ring_queue.proofs.ends.gather.Given as goal

abbrev pub invariant-loop-seat : goal.invariant-loop-seat
invariant-loop-seat g l = HasGathered l.table.shared.table_id l.gatherer l.yielded × All (HasToken l.table.shared.table_id) l.seat-iterator.rest.items
