use Rattle.value_queue.specs.Queues.{arena_of}
use Rattle.value_queue.proofs.Learned.{shut_done, shut_refused}
use Rattle.value_queue.proofs.carrier.QueueOfCarrier.try_shut.Goals as goal

pub returns-clause-shut : goal.returns-clause-shut
returns-clause-shut g c = shut_done g.A.Algorithm.shut_worn (arena_of c.args.self.now) c.args.seat.now c.shut.new.seat c.args.turns
    c.args.self.now.carries c.requires.seat.0 c.shut.result c.shut.ensures

pub returns-clause-refused : goal.returns-clause-refused
returns-clause-refused g c = shut_refused g.A.Algorithm.shut_worn (arena_of c.args.self.now) c.args.seat.now c.shut.new.seat c.args.turns
    c.args.self.now.carries c.requires.seat.0 c.shut.result c.shut.ensures
