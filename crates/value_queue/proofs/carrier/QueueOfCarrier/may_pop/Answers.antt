-- What a seat's role says is what its number permits.
use Rattle.node_arena.proofs.Permits.{pop_permits}
use Rattle.value_queue.specs.Queues.{arena_of}
use Rattle.value_queue.proofs.carrier.QueueOfCarrier.may_pop.Goals as goal

pub returns : goal.returns
returns g c = rw c.may_pop.ensures (pop_permits (arena_of c.args.self.now) c.args.seat.now c.requires.0.seat)
