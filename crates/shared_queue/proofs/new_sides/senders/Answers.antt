-- One handle more, of the queue and of the next seat.
use Rattle.std.proofs.Common.{◌≡◌, ◌∙◌, ap, not}
use Rattle.shared_queue.specs.Queues.{queue_of}
use Rattle.shared_queue.specs.Handles.{sender_queue, sender_side, sender_seat, side_seat}
use Rattle.shared_queue.proofs.Dealt.{one_more}
use Rattle.shared_queue.proofs.new_sides.senders.Goals as goal

pub loop-seat-preserved : goal.loop-seat-preserved
loop-seat-preserved g c =
    let was = c.loop-seat.invariant in
    let made = c.new-in-loop-seat.ensures in
    let grown = c.is_err.ensures.negation ∙ ap not c.if-is_err.false in
    let queue = made.queue ∙ ap queue_of c.in-Ok-Ok.ensures in
    let all = one_more c.loop-seat.senders.items c.push.new.self.items c.new-in-loop-seat.result _ grown c.push.ensures.items (λ h. sender_queue h ≡ queue_of c.args.queue.now.value)
    was.queue queue sender_seat _ _ was.seats made.seat in
    let side = ap side_seat made.side ∙ ap side_seat c.in-Ok-Ok.ensures' ∙ ap side_seat c.in-Ok-new.ensures.ok in
    let closer = side ∙ c.new-2.ensures ∙ c.new.ensures in
    let each = one_more c.loop-seat.senders.items c.push.new.self.items c.new-in-loop-seat.result _ grown c.push.ensures.items (λ h. side_seat (sender_side h) ≡ c.args.closer)
    was.closer closer sender_seat _ _ was.seats made.seat in
    record { queue = all.0; closer = each.0; seats = all.1 }
