-- The seat is its queue's by its type, and may push.
use Rattle.shared_queue.proofs.Shares.{sender_in, sender_stays}
use Rattle.shared_queue.proofs.sender.Sender.try_send.Goals as goal

pub try_push-requires-clause-seat : goal.try_push-requires-clause-seat
try_push-requires-clause-seat g c = (sender_in g.met.C.Carrier.seat_prop c.deref.result.now c.args.self.now c.deref.ensures).0

pub try_push-requires-clause-role : goal.try_push-requires-clause-role
try_push-requires-clause-role g c = (sender_in g.met.C.Carrier.seat_prop c.deref.result.now c.args.self.now c.deref.ensures).1

pub invariant_of-self : goal.invariant_of-self
invariant_of-self g c =
    record { sits = sender_stays g.met.C.Carrier.seat_prop c.deref.result.now c.args.self.now c.deref.ensures c.try_push.new.seat c.try_push.ensures.seat c.try_push.ensures.number }
