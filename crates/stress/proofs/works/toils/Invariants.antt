use Rattle.stress.specs.Seated.{MayCall}
use Rattle.stress.proofs.works.toils.Given as goal

abbrev pub invariant-loop-number : goal.invariant-loop-number
invariant-loop-number g l = MayCall g.Q.Carrier.is_seat g.Q.Carrier.permits g.Q.Carrier.known l.fn.queue l.seat
