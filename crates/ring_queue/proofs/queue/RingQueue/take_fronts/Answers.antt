use Rattle.std.proofs.Common.{sym, ◌∙◌}
use Rattle.ring_queue.proofs.Tries.{tried_front}
use Rattle.ring_queue.proofs.queue.RingQueue.take_fronts.Goals as goal

pub returns-then-raise_head-head-clause-tried : goal.returns-then-raise_head-head-clause-tried
returns-then-raise_head-head-clause-tried g c failed =
    tried_front c.args.self.now.plan c.args.seat.now c.raise_head.new.seat _ _ c.raise_head.ensures.told (λ e. c.if-raise_head-head.true (e ∙ sym c.requires.ready.sits.head))
