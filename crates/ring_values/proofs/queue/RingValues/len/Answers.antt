use Rattle.ring_queue.proofs.Moved.{none_stays}
use Rattle.ring_values.specs.Queues.{ring_of}
use Rattle.ring_values.proofs.Looked.{long}
use Rattle.ring_values.proofs.queue.RingValues.len.Goals as goal

pub returns-clause-seat : goal.returns-clause-seat
returns-clause-seat g c = let told = c.len_in.ensures in record { ready = told.seat; none_out = none_stays c.args.seat.now c.len_in.new.seat told.slots c.requires.none_out }

pub returns-clause-long : goal.returns-clause-long
returns-clause-long g c =
    let q = c.args.self.now in
    let told = c.len_in.ensures in
    long (ring_of q) q.carries c.args.seat.now c.len_in.new.seat c.requires.ready told.seat told.slots c.len_in.result told.long
