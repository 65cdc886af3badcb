-- The seats of leases of this pool are its queue's.
use Rattle.seat_pool.specs.Queues.{sits_in}
use Rattle.seat_pool.proofs.Queues.{stays}
use Rattle.seat_pool.proofs.queue.SeatPoolCarrier.meet.Goals as goal

pub meet-requires-clause-one : goal.meet-requires-clause-one
meet-requires-clause-one g c = sits_in g.met.C.Carrier.seat_prop c.args.self.now c.args.one.now c.requires.one c.deref.result.now c.deref.ensures

pub meet-requires-clause-other : goal.meet-requires-clause-other
meet-requires-clause-other g c = sits_in g.met.C.Carrier.seat_prop c.args.self.now c.args.other.now c.requires.other c.deref.result.now c.deref.ensures

pub invariant_of-one : goal.invariant_of-one
invariant_of-one g c = let lease = c.args.one.now in (
  (
    lease.held.taken,
    (stays c.args.self.now lease c.requires.one c.deref.result.now c.deref.ensures c.meet.new.one c.meet.ensures.one c.meet.ensures.meets.first.number, tt),
  ),
  (lease.home, (lease.here, (lease.table, tt))),
)

pub invariant_of-other : goal.invariant_of-other
invariant_of-other g c = let lease = c.args.other.now in (
  (
    lease.held.taken,
    (stays c.args.self.now lease c.requires.other c.deref.result.now c.deref.ensures c.meet.new.other c.meet.ensures.other c.meet.ensures.meets.second.number, tt),
  ),
  (lease.home, (lease.here, (lease.table, tt))),
)
