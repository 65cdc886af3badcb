use Rattle.std.proofs.Common.{take, refl, arith}
use Rattle.std.proofs.Math.Nat.{min-le_left, min-le_right}
use Rattle.std.proofs.lemmas.List.{length-take-le}
use Rattle.history.proofs.Learning.{sees_then}
use Rattle.ring_queue.specs.declared.pops.Turn.TheVariants.{Failed}
use Rattle.ring_queue.specs.Seats.{known_of}
use Rattle.ring_queue.proofs.Turns.{turn_after, end_failed, none_if}
use Rattle.ring_queue.proofs.Batching.{popped_after}
use Rattle.ring_queue.proofs.Tries.{tried_then}
use Rattle.ring_queue.proofs.queue.RingQueue.batch_turn.Goals as goal

pub returns-in-Ahead-clause-says : goal.returns-in-Ahead-clause-says
returns-in-Ahead-clause-says g c =
    let t = turn_after c.args.self.now.plan c.args.seat.now c.look_twice_at_front.new.seat c.look_at_head.new.seat Failed c.look_twice_at_front.ensures.sees c.look_twice_at_front.ensures.head
    (end_failed c.args.self.now.plan c.look_twice_at_front.new.seat c.look_at_end.new.seat c.look_at_head.new.seat (c.look_twice_at_front.ensures.late (none_if c.look_twice_at_front.result c.in_default.not-Some)) c.in-Ahead.ensures.says c.look_at_head.ensures.sees c.look_at_head.ensures.more) in
    (refl, t.0, t.1)

pub returns-then-take_fronts-clause-says : goal.returns-then-take_fronts-clause-says
returns-then-take_fronts-clause-says g c =
    let on = c.look_on-count.ensures.on in
    let taken = c.if-take_fronts.ensures.taken in
    let few = on.few in
    let a = min-le_left c.args.most 32 in
    let a' = min-le_right c.args.most 32 in
    let b = min-le_left c.min.result c.behind-self.inside.slots in
    let first = c.min.ensures in
    let second = c.min-limit.ensures in
    let long = c.look_on-count.array_long in
    popped_after (known_of c.args.seat.now) (known_of c.look_on-count.new.seat) (known_of c.take_fronts.new.seat)
    (take c.look_on-count.result c.look_on-count.new.words) c.args.most c.look_on-count.result c.args.into.now.items c.take_fronts.new.into.items
    (sees_then _ _ _ c.look_twice_at_front.ensures.sees on.sees) taken.0 taken.1
    (length-take-le c.look_on-count.result c.look_on-count.new.words (omega (arith, few, a', b, first, second, long))) on.some
    (omega (arith, few, a, b, first, second))

pub returns-in-Ahead-clause-tried : goal.returns-in-Ahead-clause-tried
returns-in-Ahead-clause-tried g c = tried_then c.args.seat.now c.look_twice_at_front.new.seat c.look_at_head.new.seat 0 1 c.look_twice_at_front.ensures.tried
    (tried_then c.look_twice_at_front.new.seat c.look_at_end.new.seat c.look_at_head.new.seat 0 1 c.look_at_end.ensures.tried (c.look_at_head.ensures.tried c.in-Ahead.ensures.says.3))

pub returns-else-take_fronts-clause-tried : goal.returns-else-take_fronts-clause-tried
returns-else-take_fronts-clause-tried g c = tried_then c.args.seat.now c.look_twice_at_front.new.seat c.take_fronts.new.seat 0 1 c.in-Some.ensures.tried
    (tried_then c.look_twice_at_front.new.seat c.look_on-count.new.seat c.take_fronts.new.seat 0 1 c.look_on-count.ensures.tried (c.take_fronts.ensures.tried c.if-take_fronts.false))
