-- The seat is its queue's by its type, and may push.
use Rattle.shared_queue.proofs.Shares.{sender_in, sender_stays}
use Rattle.shared_queue.proofs.sender.Sender.send_timeout.Goals as goal

pub send_timeout-requires-clause-seat : goal.send_timeout-requires-clause-seat
send_timeout-requires-clause-seat g c κs within = (sender_in g.met.C.Carrier.seat_prop c.deref.result.now c.args.self.now c.deref.ensures).0

pub send_timeout-requires-clause-role : goal.send_timeout-requires-clause-role
send_timeout-requires-clause-role g c κs within = (sender_in g.met.C.Carrier.seat_prop c.deref.result.now c.args.self.now c.deref.ensures).1

pub invariant_of-self : goal.invariant_of-self
invariant_of-self g c =
    record { sits = sender_stays g.met.C.Carrier.seat_prop c.deref.result.now c.args.self.now c.deref.ensures c.send_timeout.new.seat c.send_timeout.ensures.seat c.send_timeout.ensures.number }
