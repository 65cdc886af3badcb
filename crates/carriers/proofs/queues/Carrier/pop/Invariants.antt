use Rattle.carriers.specs.Answers.{SeesMoreOf}
use Rattle.carriers.proofs.queues.Carrier.pop.Given as goal

abbrev pub invariant-loop : goal.invariant-loop
invariant-loop g l = record {
  can : (goal.iterator-loop g).can_next l.iterator';
  finite : (goal.iterator-loop g).is_finite l.iterator';
  seat : g.Self.Carrier.is_seat l.self l.seat;
  more : SeesMoreOf (g.Self.Carrier.known l.initial.seat) (g.Self.Carrier.known l.seat);
}
