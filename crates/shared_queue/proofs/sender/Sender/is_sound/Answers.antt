-- The seat is its queue's by its type.
use Rattle.std.proofs.Common.{refl}
use Rattle.shared_queue.proofs.Shares.{sender_in}
use Rattle.shared_queue.proofs.sender.Sender.is_sound.Goals as goal

pub returns : goal.returns
returns g c = g.met.C.Carrier.sound _ _ (sender_in g.met.C.Carrier.seat_prop c.args.self.now.queue.value c.args.self.now refl).0
