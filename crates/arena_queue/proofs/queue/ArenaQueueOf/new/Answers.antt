use Rattle.node_arena.proofs.Openings.{made_ready, made_new}
use Rattle.arena_queue.proofs.queue.ArenaQueueOf.new.Goals as goal

pub returns-clause-seats : goal.returns-clause-seats
returns-clause-seats g c = made_ready _ _ _ c.in_ok-arena.ensures.ok

pub returns-clause-unused : goal.returns-clause-unused
returns-clause-unused g c = made_new _ _ _ c.in_ok-arena.ensures.ok
