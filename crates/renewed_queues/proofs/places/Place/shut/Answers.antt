-- The seat is the queue's by the place's type, and that has one proof.
use Rattle.std.proofs.Common.{rules}
use Rattle.std.proofs.Math.Logic.{∥∥₁_elim}
use Rattle.renewed_queues.proofs.places.Place.shut.Goals as goal

pub shut-requires-after_bounds : goal.shut-requires-after_bounds
shut-requires-after_bounds g c κs within =
    let here = ∥∥₁_elim c.args.self.now.sits (g.met.Q.Fifo.seat_prop c.args.self.now.queue.value c.args.self.now.seat) (λ x. x) in
    search (rules, here)
