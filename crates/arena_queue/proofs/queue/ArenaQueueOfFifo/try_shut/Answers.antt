use Rattle.arena_queue.proofs.Shuts.{shut_learns}
use Rattle.arena_queue.proofs.queue.ArenaQueueOfFifo.try_shut.Goals as goal

pub returns-clause-refused : goal.returns-clause-refused
returns-clause-refused g c = shut_learns _ _ _ _ _ _ c.shut.ensures
