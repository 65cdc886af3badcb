use Rattle.std.proofs.Common.{◌≡◌, map}
use Rattle.std.specs.List.{All}
use Rattle.owned.specs.Owned.{queue_of, seat_of}
use Rattle.owned.proofs.shares.deal.Given as goal

abbrev pub invariant-loop-seat : goal.invariant-loop-seat
invariant-loop-seat g l = record {
  value : l.queue.value ≡ l.fn.queue;
  queue : All (λ s. queue_of s ≡ l.fn.queue) l.owned.items;
  seats : map seat_of l.owned.items ≡ l.yielded;
}
