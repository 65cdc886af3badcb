use Rattle.std.proofs.Common.{◌≡◌, refl}
use Rattle.std.proofs.lemmas.List.{map_push}
use Rattle.std.proofs.lemmas.List.Elements.{All-push}
use Rattle.owned.specs.Owned.{queue_of, seat_of}
use Rattle.owned.proofs.shares.deal.Goals as goal

pub loop-seat-preserved : goal.loop-seat-preserved
loop-seat-preserved g c = record {
  value = c.loop-seat.invariant.value;
  queue = rw c.in-Ok-push.ensures.items (All-push (λ s. queue_of s ≡ c.args.queue) c.loop-seat.owned.items c.new-in-loop-seat.result c.loop-seat.invariant.queue
      (cc (c.new-in-loop-seat.ensures.queue, c.in-Ok-try_clone.ensures, c.loop-seat.invariant.value)));
  seats = rw (c.in-Ok-push.ensures.items, map_push seat_of c.loop-seat.owned.items c.new-in-loop-seat.result, c.loop-seat.invariant.seats, c.new-in-loop-seat.ensures.seat) refl;
}
