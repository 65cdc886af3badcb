use Rattle.std.proofs.Common.{arith}
use Rattle.ring_values.proofs.Opened.{made_seats, made_permits, made_new, made_narrow}
use Rattle.ring_values.proofs.queue.RingValues.new.Goals as goal

pub returns-clause-permits : goal.returns-clause-permits
returns-clause-permits g c = made_permits _ _ _ _ _ c.in_ok-ring.ensures.ok

pub returns-clause-seats : goal.returns-clause-seats
returns-clause-seats g c = made_seats _ _ _ _ _ c.in_ok-ring.ensures.ok

pub returns-clause-unused : goal.returns-clause-unused
returns-clause-unused g c = made_new _ _ _ _ _ c.in_ok-ring.ensures.ok

pub invariant_of-result-clause-narrow : goal.invariant_of-result-clause-narrow
invariant_of-result-clause-narrow g c = made_narrow _ _ _ _ _ c.in_ok-ring.ensures.ok (omega (arith, c.ranges.most.fits))
