-- What a seat's role says is what its number permits.
use Rattle.node_arena.proofs.Permits.{pop_permits}
use Rattle.arena_queue.specs.Queues.{arena_of}
use Rattle.arena_queue.proofs.queue.ArenaQueueOfFifo.may_pop.Goals as goal

pub returns : goal.returns
returns g c = rw c.may_pop.ensures (pop_permits (arena_of c.args.self.now) c.args.seat.now c.requires.seat)
