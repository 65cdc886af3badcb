-- The seat is its queue's by its type, and may pop.
use Rattle.shared_queue.proofs.Shares.{receiver_in, receiver_stays}
use Rattle.shared_queue.proofs.receiver.Receiver.recv_deadline.Goals as goal

pub recv_deadline-requires-clause-seat : goal.recv_deadline-requires-clause-seat
recv_deadline-requires-clause-seat g c κs within = (receiver_in g.met.C.Carrier.seat_prop c.deref.result.now c.args.self.now c.deref.ensures).0

pub recv_deadline-requires-clause-role : goal.recv_deadline-requires-clause-role
recv_deadline-requires-clause-role g c κs within = (receiver_in g.met.C.Carrier.seat_prop c.deref.result.now c.args.self.now c.deref.ensures).1

pub invariant_of-self : goal.invariant_of-self
invariant_of-self g c =
    record { sits = receiver_stays g.met.C.Carrier.seat_prop c.deref.result.now c.args.self.now c.deref.ensures c.recv_deadline.new.seat c.recv_deadline.ensures.seat c.recv_deadline.ensures.number }
