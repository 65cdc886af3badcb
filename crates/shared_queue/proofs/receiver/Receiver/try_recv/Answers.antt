-- The seat is its queue's by its type, and may pop.
use Rattle.shared_queue.proofs.Shares.{receiver_in, receiver_stays}
use Rattle.shared_queue.proofs.receiver.Receiver.try_recv.Goals as goal

pub try_pop-requires-clause-seat : goal.try_pop-requires-clause-seat
try_pop-requires-clause-seat g c = (receiver_in g.met.C.Carrier.seat_prop c.deref.result.now c.args.self.now c.deref.ensures).0

pub try_pop-requires-clause-role : goal.try_pop-requires-clause-role
try_pop-requires-clause-role g c = (receiver_in g.met.C.Carrier.seat_prop c.deref.result.now c.args.self.now c.deref.ensures).1

pub invariant_of-self : goal.invariant_of-self
invariant_of-self g c =
    record { sits = receiver_stays g.met.C.Carrier.seat_prop c.deref.result.now c.args.self.now c.deref.ensures c.try_pop.new.seat c.try_pop.ensures.seat c.try_pop.ensures.number }
