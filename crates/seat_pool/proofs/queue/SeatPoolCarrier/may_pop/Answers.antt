-- The seat of a lease of this pool is its queue's.
use Rattle.seat_pool.specs.Queues.{sits_in}
use Rattle.seat_pool.proofs.queue.SeatPoolCarrier.may_pop.Goals as goal

pub may_pop-requires : goal.may_pop-requires
may_pop-requires g c = sits_in g.met.C.Carrier.seat_prop c.args.self.now c.args.seat.now c.requires c.deref.result.now c.deref.ensures
