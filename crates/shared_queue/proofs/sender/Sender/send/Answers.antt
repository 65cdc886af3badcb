-- The seat is its queue's by its type, and may push.
use Rattle.shared_queue.proofs.Shares.{sender_in, sender_stays}
use Rattle.shared_queue.proofs.sender.Sender.send.Goals as goal

pub send-requires-clause-seat : goal.send-requires-clause-seat
send-requires-clause-seat g c κs within = (sender_in g.met.C.Carrier.seat_prop c.deref.result.now c.args.self.now c.deref.ensures).0

pub send-requires-clause-role : goal.send-requires-clause-role
send-requires-clause-role g c κs within = (sender_in g.met.C.Carrier.seat_prop c.deref.result.now c.args.self.now c.deref.ensures).1

pub invariant_of-self : goal.invariant_of-self
invariant_of-self g c =
    record { sits = sender_stays g.met.C.Carrier.seat_prop c.deref.result.now c.args.self.now c.deref.ensures c.send.new.seat c.send.ensures.seat c.send.ensures.number }
