-- The seat is its queue's by its type.
use Rattle.std.proofs.Common.{refl}
use Rattle.shared_queue.proofs.Shares.{sender_in}
use Rattle.shared_queue.proofs.sender.Sender.into_seat.Goals as goal

pub returns-clause-may : goal.returns-clause-may
returns-clause-may g c = sender_in g.met.C.Carrier.seat_prop c.args.self.queue.value c.args.self refl
