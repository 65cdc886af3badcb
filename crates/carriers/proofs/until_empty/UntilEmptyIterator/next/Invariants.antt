use Rattle.std.proofs.Common.{◌≡◌, false}
use Rattle.history.specs.Answers.{SeesMore}
use Rattle.carriers.specs.Empties.{queue_of, seat_of, has_ended, turns_left}
use Rattle.carriers.proofs.until_empty.UntilEmptyIterator.next.Given as goal

abbrev pub invariant-loop : goal.invariant-loop
invariant-loop g l = record {
  can : (goal.iterator-loop g).can_next l.iterator';
  finite : (goal.iterator-loop g).is_finite l.iterator';
  queue : queue_of l.self ≡ queue_of l.initial.self;
  same : (seat_of l.self).ghost_name ≡ (seat_of l.initial.self).ghost_name;
  turns : turns_left l.self ≡ turns_left l.initial.self;
  goes : has_ended l.self ≡ false;
  seat : g.Q.Fifo.is_seat (queue_of l.self) (seat_of l.self).now;
  more : SeesMore (g.Q.Fifo.known (seat_of l.initial.self).now) (g.Q.Fifo.known (seat_of l.self).now);
}
