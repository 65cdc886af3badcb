use Rattle.std.proofs.Common.{◌≡◌, false}
use Rattle.carriers.specs.Waits.{WaitsBy}
use Rattle.carriers.specs.Shuts.{queue_of, seat_of, has_ended, turns_left}
use Rattle.carriers.proofs.until_shut.UntilShutIterator.next.Given as goal

abbrev pub invariant-loop : goal.invariant-loop
invariant-loop g l = record {
  can : (goal.iterator-loop g).can_next l.iterator';
  finite : (goal.iterator-loop g).is_finite l.iterator';
  queue : queue_of l.self ≡ queue_of l.initial.self;
  same : (seat_of l.self).ghost_name ≡ (seat_of l.initial.self).ghost_name;
  turns : turns_left l.self ≡ turns_left l.initial.self;
  goes : has_ended l.self ≡ false;
  seat : g.Q.Fifo.is_seat (queue_of l.self) (seat_of l.self).now;
  number : (g.Q.Fifo.known (seat_of l.self).now).number ≡ (g.Q.Fifo.known (seat_of l.initial.self).now).number;
  waits : WaitsBy g.Q.Fifo.is_seat g.Q.Fifo.known (queue_of l.initial.self) (seat_of l.initial.self).now (seat_of l.self).now;
}
