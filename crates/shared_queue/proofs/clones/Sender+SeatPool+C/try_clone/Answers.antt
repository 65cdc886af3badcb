-- The further lease is of the pool of the first one, and has its part.
use Rattle.std.proofs.Common.{ap}
use Rattle.shared_queue.specs.Queues.{queue_of}
use Rattle.shared_queue.proofs.FurtherSeats.{gives_too}
use Rattle.shared_queue.proofs.clones.Sender+SeatPool+C.try_clone.Goals as goal

pub invariant_of-result : goal.invariant_of-result
invariant_of-result g c =
    let own = c.args.self.now in
    record {
      sits =
          ∣ gives_too (queue_of own.queue.value) (queue_of c.in-Ok-Ok.queue.value) own.seat c.in_ok-seat.seat (ap queue_of c.in-Ok-Ok.ensures)
          c.in_ok-seat.ensures.pool c.in_ok-seat.ensures.part own.sits ∣₁;
    }
