use Rattle.std.proofs.Common.{◌≡◌, map}
use Rattle.std.specs.List.{All}
use Rattle.shared_queue.specs.Queues.{queue_of}
use Rattle.shared_queue.specs.Handles.{sender_queue, sender_side, sender_seat, side_seat}
use Rattle.shared_queue.proofs.new_sides.senders.Given as goal

abbrev pub invariant-loop-seat : goal.invariant-loop-seat
invariant-loop-seat g l = record {
  queue : All (λ h. sender_queue h ≡ queue_of l.fn.queue.value) l.senders.items;
  closer : All (λ h. side_seat (sender_side h) ≡ l.fn.closer) l.senders.items;
  seats : map sender_seat l.senders.items ≡ l.yielded;
}
