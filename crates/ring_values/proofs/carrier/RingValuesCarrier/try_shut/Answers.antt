use Rattle.ring_values.specs.Queues.{ring_of}
use Rattle.ring_values.proofs.Learned.{shut_done, shut_refused, shut_caused}
use Rattle.ring_values.proofs.carrier.RingValuesCarrier.try_shut.Goals as goal

pub returns-clause-shut : goal.returns-clause-shut
returns-clause-shut g c = let told = c.set_shut.ensures in shut_done (ring_of c.args.self.now) c.args.self.now.carries c.args.seat.now
    c.set_shut.new.seat c.requires.seat.ready told.seat told.slots c.set_shut.result told.shut

pub returns-clause-refused : goal.returns-clause-refused
returns-clause-refused g c = let told = c.set_shut.ensures in shut_refused (ring_of c.args.self.now) c.args.self.now.carries c.args.seat.now
    c.set_shut.new.seat c.requires.seat.ready told.seat told.slots c.set_shut.result told.was

pub returns-clause-caused : goal.returns-clause-caused
returns-clause-caused g c = let told = c.set_shut.ensures in shut_caused (ring_of c.args.self.now) c.args.self.now.carries c.args.seat.now
    c.set_shut.new.seat c.requires.seat.ready told.seat told.slots c.set_shut.result told.was
