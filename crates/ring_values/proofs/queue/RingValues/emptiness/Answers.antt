use Rattle.ring_queue.proofs.Moved.{none_stays}
use Rattle.ring_values.specs.Queues.{ring_of}
use Rattle.ring_values.specs.ValuesSeen.{sight}
use Rattle.ring_values.specs.Sound.{clear}
use Rattle.value_queue.proofs.Looked.{found}
use Rattle.ring_values.proofs.Learned.{on}
use Rattle.ring_values.proofs.queue.RingValues.emptiness.Goals as goal

pub returns-clause-seat : goal.returns-clause-seat
returns-clause-seat g c = let told = c.emptiness_in.ensures in record { ready = told.seat; none_out = none_stays c.args.seat.now c.emptiness_in.new.seat told.slots c.requires.none_out }

pub returns-clause-found : goal.returns-clause-found
returns-clause-found g c =
    let q = c.args.self.now in
    let told = c.emptiness_in.ensures in
    let s = c.args.seat.now in
    let t = c.emptiness_in.new.seat in
    found (sight s) (sight t) (clear (ring_of q) q.carries s c.requires.ready) (clear (ring_of q) q.carries t told.seat) (on s t told.slots) c.emptiness_in.result told.found
