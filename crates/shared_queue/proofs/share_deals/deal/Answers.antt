use Rattle.std.proofs.Common.{◌≡◌, refl}
use Rattle.std.proofs.lemmas.List.{map_push}
use Rattle.std.proofs.lemmas.List.Elements.{All-push}
use Rattle.shared_queue.specs.Sharing.{stepped_at, share_seat}
use Rattle.shared_queue.proofs.share_deals.deal.Goals as goal

pub loop-seat-preserved : goal.loop-seat-preserved
loop-seat-preserved g c = record {
  value = c.loop-seat.invariant.value;
  queue = rw c.in-Ok-push.ensures.items (All-push (λ h. stepped_at h ≡ c.args.queue) c.loop-seat.shares.items c.new-in-loop-seat.result c.loop-seat.invariant.queue
      (cc (c.new-in-loop-seat.ensures.queue, c.in-Ok-try_clone.ensures, c.loop-seat.invariant.value)));
  seats = rw (c.in-Ok-push.ensures.items, map_push share_seat c.loop-seat.shares.items c.new-in-loop-seat.result, c.loop-seat.invariant.seats, c.new-in-loop-seat.ensures.seat) refl;
}
