-- The seat is its queue's by its type, and may do both.
use Rattle.std.proofs.Common.{refl}
use Rattle.shared_queue.proofs.Shares.{share_in}
use Rattle.shared_queue.proofs.share.Share.into_parts.Goals as goal

pub returns-clause-sits : goal.returns-clause-sits
returns-clause-sits g c = share_in g.met.C.Carrier.seat_prop c.args.self.queue.value c.args.self refl
