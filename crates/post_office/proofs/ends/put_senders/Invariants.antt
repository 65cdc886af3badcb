use Rattle.std.proofs.Common.{◌≡◌, ◌+◌, ◌≤◌, ◌++◌, map, length, vec_len, vec_capacity}
use Rattle.shared_queue.specs.Handles.{sender_seat}
use Rattle.post_office.proofs.ends.put_senders.Given as goal

abbrev pub invariant-loop-sender : goal.invariant-loop-sender
invariant-loop-sender g l = record {
  those : l.seats.items ≡ l.fn.seats.items ++ map sender_seat l.yielded;
  room : vec_len l.seats + length l.sender-iterator.rest.items ≤ vec_capacity l.seats;
  capacity : vec_capacity l.seats ≡ vec_capacity l.fn.seats;
}
