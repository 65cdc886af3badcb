use Rattle.std.proofs.Common.{◌≡◌, ◌+◌, ◌≤◌, map, length, vec_len, vec_capacity}
use Rattle.std.specs.List.{All}
use Rattle.shared_queue.specs.Sharing.{share_queue}
use Rattle.msq_c.specs.NewShares.{share_at}
use Rattle.msq_c.specs.ShareEnds.{seat_at}
use Rattle.msq_c.specs.WordEnds.{AreFull}
use Rattle.msq_c.proofs.share_ends.without_shares.Given as goal

abbrev pub invariant-loop-handle : goal.invariant-loop-handle
invariant-loop-handle g l = record {
  those : l.seats.items ≡ map (seat_at g.H.Slot.own) l.yielded;
  sit : (q : g.row.C.Denot) → All (λ h. share_queue (share_at g.H.Slot.own h) ≡ q) l.yielded → All (g.C.Carrier.is_seat q) l.seats.items;
  full : AreFull g.H.Slot.holds l.handle-iterator.rest.items;
  room : vec_len l.seats + length l.handle-iterator.rest.items + 1 ≤ vec_capacity l.seats;
}
