use Rattle.std.proofs.Common.{lit≤}
use Rattle.arena_queue.proofs.queue.ArenaQueueOfClose.close_with.Goals as goal

pub close_with-requires : goal.close_with-requires
close_with-requires g c = (lit≤ tt, (c.requires.room, (c.requires.seats, c.args.self.numbers)))
