use Rattle.stress.specs.Seated.{MayCall}
use Rattle.stress.proofs.works.burst.Given as goal

abbrev pub invariant-loop-number : goal.invariant-loop-number
invariant-loop-number g l = MayCall g.Q.Carrier.is_seat g.Q.Carrier.permits g.Q.Carrier.known l.fn.queue l.seat

abbrev pub invariant-loop : goal.invariant-loop
invariant-loop g l = MayCall g.Q.Carrier.is_seat g.Q.Carrier.permits g.Q.Carrier.known l.fn.queue l.seat
