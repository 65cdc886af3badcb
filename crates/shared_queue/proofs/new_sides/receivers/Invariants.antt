use Rattle.std.proofs.Common.{◌≡◌, map}
use Rattle.std.specs.List.{All}
use Rattle.shared_queue.specs.Queues.{queue_of}
use Rattle.shared_queue.specs.Handles.{receiver_queue, receiver_side, receiver_seat, side_seat}
use Rattle.shared_queue.proofs.new_sides.receivers.Given as goal

abbrev pub invariant-loop-seat : goal.invariant-loop-seat
invariant-loop-seat g l = record {
  queue : All (λ h. receiver_queue h ≡ queue_of l.fn.queue.value) l.receivers.items;
  closer : All (λ h. side_seat (receiver_side h) ≡ l.fn.closer) l.receivers.items;
  seats : map receiver_seat l.receivers.items ≡ l.yielded;
}
