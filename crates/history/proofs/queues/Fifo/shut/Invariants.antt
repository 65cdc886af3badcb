use Rattle.history.specs.Answers.{SeesMore}
use Rattle.history.proofs.queues.Fifo.shut.Given as goal

abbrev pub invariant-loop : goal.invariant-loop
invariant-loop g l = record {
  can : (goal.iterator-loop g).can_next l.iterator';
  finite : (goal.iterator-loop g).is_finite l.iterator';
  seat : g.Self.Fifo.is_seat l.self l.seat;
  more : SeesMore (g.Self.Fifo.known l.initial.seat) (g.Self.Fifo.known l.seat);
}
