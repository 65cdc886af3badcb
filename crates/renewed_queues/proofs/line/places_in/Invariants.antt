use Rattle.std.specs.List.{All}
use Rattle.renewed_queues.proofs.line.places_in.Given as goal

abbrev pub invariant-loop : goal.invariant-loop
invariant-loop g l = All (g.Q.Fifo.is_seat l.queue.value) l.seats.items
