use Rattle.std.proofs.Common.{◌≡◌, map}
use Rattle.std.specs.List.{All}
use Rattle.shared_queue.specs.Sharing.{stepped_at, share_seat}
use Rattle.shared_queue.proofs.share_deals.deal.Given as goal

abbrev pub invariant-loop-seat : goal.invariant-loop-seat
invariant-loop-seat g l = record {
  value : l.queue.value ≡ l.fn.queue;
  queue : All (λ h. stepped_at h ≡ l.fn.queue) l.shares.items;
  seats : map share_seat l.shares.items ≡ l.yielded;
}
