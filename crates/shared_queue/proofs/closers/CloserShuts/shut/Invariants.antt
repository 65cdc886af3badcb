use Rattle.std.specs.Prelude.{◌≡◌, ◌+◌, List, length}
use Rattle.carriers.specs.Answers.{SeesMoreOf}
use Rattle.shared_queue.specs.Queues.{queue_of}
use Rattle.shared_queue.specs.Seats.{IsGiver}
use Rattle.shared_queue.specs.Tries.{Tries}
use Rattle.shared_queue.proofs.closers.CloserShuts.shut.Given as goal

abbrev pub invariant-loop : goal.invariant-loop
invariant-loop g l = record {
  sits : IsGiver g.C.Carrier.is_seat g.C.Carrier.permits g.C.Carrier.known (queue_of l.queue.value) l.seat;
  more : SeesMoreOf (g.C.Carrier.known l.initial.seat) (g.C.Carrier.known l.seat);
  states : List g.row.C-Seat.Denot;
  many : length states + 1 ≡ l.counter;
  each : Tries g.C.Carrier.is_seat g.C.Carrier.known g.C.Carrier.shut_cause (queue_of l.queue.value) 8 states l.initial.seat l.seat;
}
