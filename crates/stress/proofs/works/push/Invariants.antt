use Rattle.stress.specs.Seated.{MayCall}
use Rattle.stress.proofs.works.push.Given as goal

abbrev pub invariant-loop : goal.invariant-loop
invariant-loop g l = record {
  can : (goal.iterator-loop g).can_next l.iterator';
  finite : (goal.iterator-loop g).is_finite l.iterator';
  seat : MayCall g.Q.Carrier.is_seat g.Q.Carrier.permits g.Q.Carrier.known l.fn.queue l.seat;
}
