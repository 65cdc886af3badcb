-- Both seats are their queue's by their types.
use Rattle.std.proofs.Common.{◌∙◌, ap, sym}
use Rattle.shared_queue.specs.Queues.{queue_of}
use Rattle.shared_queue.proofs.Shares.{receiver_in, receiver_stays, sender_of, sender_after}
use Rattle.shared_queue.proofs.MetSeats.{met_in_order}
use Rattle.shared_queue.proofs.receiver.Receiver.meet.Goals as goal

pub meet-requires-clause-one : goal.meet-requires-clause-one
meet-requires-clause-one g c = (receiver_in g.met.C.Carrier.seat_prop c.deref.result.now c.args.self.now c.deref.ensures).0

pub meet-requires-clause-other : goal.meet-requires-clause-other
meet-requires-clause-other g c = (sender_of g.met.C.Carrier.seat_prop (queue_of c.deref.result.now) c.args.sender.now (c.requires ∙ sym (ap queue_of c.deref.ensures))).0

pub invariant_of-self : goal.invariant_of-self
invariant_of-self g c =
    record { sits = receiver_stays g.met.C.Carrier.seat_prop c.deref.result.now c.args.self.now c.deref.ensures c.meet.new.one c.meet.ensures.one c.meet.ensures.meets.first.number }

pub invariant_of-sender : goal.invariant_of-sender
invariant_of-sender g c =
    record {
      sits = sender_after g.met.C.Carrier.seat_prop (queue_of c.deref.result.now) c.args.sender.now
          (c.requires ∙ sym (ap queue_of c.deref.ensures)) c.meet.new.other c.meet.ensures.other c.meet.ensures.meets.second.number;
    }

pub returns-clause-in_order : goal.returns-clause-in_order
returns-clause-in_order g c =
    let sound = g.met.C.Carrier.sound (queue_of c.deref.result.now) in
    met_in_order _ _ _ (sound c.meet.new.other c.meet.ensures.other) (sound c.meet.new.one c.meet.ensures.one) c.meet.ensures.meets.same
