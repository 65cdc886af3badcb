-- The seat of a lease of this pool is its queue's.
use Rattle.seat_pool.specs.Queues.{sits_in}
use Rattle.seat_pool.proofs.Queues.{stays}
use Rattle.seat_pool.proofs.queue.SeatPoolCarrier.try_pop.Goals as goal

pub try_pop-requires-clause-seat : goal.try_pop-requires-clause-seat
try_pop-requires-clause-seat g c = sits_in g.met.C.Carrier.seat_prop c.args.self.now c.args.seat.now c.requires.seat c.deref.result.now c.deref.ensures

pub invariant_of-seat : goal.invariant_of-seat
invariant_of-seat g c = let lease = c.args.seat.now in (
  (
    lease.held.taken,
    (stays c.args.self.now lease c.requires.seat c.deref.result.now c.deref.ensures c.try_pop.new.seat c.try_pop.ensures.seat c.try_pop.ensures.number, tt),
  ),
  (lease.home, (lease.here, (lease.table, tt))),
)
