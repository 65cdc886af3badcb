-- The queue is of numbers, so no slot is out with a seat.
use Rattle.std.proofs.Common.{lit≤}
use Rattle.node_arena.proofs.Numbers.{has_none}
use Rattle.arena_queue.specs.Queues.{arena_of}
use Rattle.arena_queue.proofs.queue.ArenaQueueOfFifo.meet.Goals as goal

pub meet-requires : goal.meet-requires
meet-requires g c =
    let none = has_none (arena_of c.args.self.now) c.args.self.now.numbers in
    (lit≤ tt, (c.requires.one, (c.requires.other, (none c.args.one.now c.requires.one, none c.args.other.now c.requires.other))))
