use Rattle.value_queue.specs.Queues.{arena_of}
use Rattle.value_queue.proofs.Learned.{meets-values}
use Rattle.value_queue.proofs.carrier.QueueOfCarrier.meet.Goals as goal

pub returns-clause-meets : goal.returns-clause-meets
returns-clause-meets g c = meets-values (arena_of c.args.self.now) c.args.one.now c.args.other.now c.meet.new.one c.meet.new.other
    c.args.self.now.carries c.requires.one.0.seat c.requires.other.0.seat c.meet.ensures
