use Rattle.ring_values.specs.Queues.{ring_of}
use Rattle.ring_values.proofs.Learned.{meets-values}
use Rattle.ring_values.proofs.carrier.RingValuesCarrier.meet.Goals as goal

pub returns-clause-meets : goal.returns-clause-meets
returns-clause-meets g c =
    let q = c.args.self.now in
    let told = c.meet_seats.ensures in
    meets-values (ring_of q) c.args.one.now c.args.other.now c.meet_seats.new.one c.meet_seats.new.other q.carries c.requires.one.ready
    c.requires.other.ready told.one told.other (told.values q.carries) told.meets
