use Rattle.ring_queue.proofs.Moved.{none_stays}
use Rattle.ring_values.specs.Queues.{ring_of}
use Rattle.ring_values.proofs.Looked.{leaves}
use Rattle.ring_values.proofs.queue.RingValues.left.Goals as goal

pub returns-clause-seat : goal.returns-clause-seat
returns-clause-seat g c = let told = c.left_in.ensures in record { ready = told.seat; none_out = none_stays c.args.seat.now c.left_in.new.seat told.slots c.requires.none_out }

pub returns-clause-left : goal.returns-clause-left
returns-clause-left g c =
    let q = c.args.self.now in
    let told = c.left_in.ensures in
    leaves (ring_of q) q.carries c.args.seat.now c.left_in.new.seat c.requires.ready told.seat told.slots c.left_in.result told.left
