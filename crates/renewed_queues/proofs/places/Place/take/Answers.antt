-- The seat is the queue's by the place's type, and that has one proof.
use Rattle.std.proofs.Common.{rules}
use Rattle.std.proofs.Math.Logic.{∥∥₁_elim}
use Rattle.renewed_queues.proofs.places.Place.take.Goals as goal

pub take-requires-after_bounds : goal.take-requires-after_bounds
take-requires-after_bounds g c κs within =
    let here = ∥∥₁_elim c.args.self.now.sits (g.met.Q.Fifo.seat_prop c.args.self.now.queue.value c.args.self.now.seat) (λ x. x) in
    search (rules, here)
