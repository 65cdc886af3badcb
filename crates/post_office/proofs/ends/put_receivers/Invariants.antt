use Rattle.std.proofs.Common.{◌≡◌, ◌+◌, ◌≤◌, ◌++◌, map, length, vec_len, vec_capacity}
use Rattle.shared_queue.specs.Handles.{receiver_seat}
use Rattle.post_office.proofs.ends.put_receivers.Given as goal

abbrev pub invariant-loop-receiver : goal.invariant-loop-receiver
invariant-loop-receiver g l = record {
  those : l.seats.items ≡ l.fn.seats.items ++ map receiver_seat l.yielded;
  room : vec_len l.seats + length l.receiver-iterator.rest.items ≤ vec_capacity l.seats;
  capacity : vec_capacity l.seats ≡ vec_capacity l.fn.seats;
}
