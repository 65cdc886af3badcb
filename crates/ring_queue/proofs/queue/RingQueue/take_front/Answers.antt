use Rattle.std.proofs.Common.{sym, subst, ◌∙◌}
use Rattle.ring_queue.specs.Steps.{taken_in}
use Rattle.ring_queue.specs.Hands.{TakesSlot}
use Rattle.ring_queue.specs.Seats.{view}
use Rattle.ring_queue.proofs.Moved.{kept_none, took_slot}
use Rattle.ring_queue.proofs.Tries.{tried_front}
use Rattle.ring_queue.proofs.queue.RingQueue.take_front.Goals as goal

pub returns-then-raise_head-head-clause-moves : goal.returns-then-raise_head-head-clause-moves
returns-then-raise_head-head-clause-moves g c =
    let z = c.args.self.now.plan in
    let s = c.args.seat.now in
    let t = c.raise_head.new.seat in
    let told = c.raise_head.ensures.told.won (c.if-raise_head-head.true ∙ c.requires.ready.sits.head) in
    subst (λ v. TakesSlot z v s t) (sym c.taken_of.ensures) (took_slot z s t _ (view s).number (taken_in c.args.word) c.raise_head.ensures.moves told.1.mine)

pub returns-else-raise_head-head-clause-moves : goal.returns-else-raise_head-head-clause-moves
returns-else-raise_head-head-clause-moves g c =
    let told = c.raise_head.ensures.told.lost (λ e. c.if-raise_head-head.false (e ∙ sym c.requires.ready.sits.head)) in
    kept_none c.args.self.now.plan c.args.seat.now c.raise_head.new.seat _ c.raise_head.ensures.moves told.2.mine

pub returns-else-raise_head-head-clause-tried : goal.returns-else-raise_head-head-clause-tried
returns-else-raise_head-head-clause-tried g c none =
    tried_front c.args.self.now.plan c.args.seat.now c.raise_head.new.seat _ _ c.raise_head.ensures.told (λ e. c.if-raise_head-head.false (e ∙ sym c.requires.ready.sits.head))
