-- The seat is its queue's by its type.
use Rattle.shared_queue.proofs.Shares.{share_in, share_stays}
use Rattle.shared_queue.proofs.share.Share.try_pop.Goals as goal

pub try_pop-requires-after_bounds : goal.try_pop-requires-after_bounds
try_pop-requires-after_bounds g c κs within = share_in g.met.C.Carrier.seat_prop c.deref.result.now c.args.self.now c.deref.ensures

pub invariant_of-self : goal.invariant_of-self
invariant_of-self g c =
    record { sits = share_stays g.met.C.Carrier.seat_prop c.deref.result.now c.args.self.now c.deref.ensures c.try_pop.new.seat c.try_pop.ensures.seat c.try_pop.ensures.number }
