-- The seat is its queue's by its type.
use Rattle.std.proofs.Common.{sym}
use Rattle.owned.proofs.SeatShares.{sits_in}
use Rattle.owned.proofs.seats.OwnedSeat.may_push.Goals as goal

pub may_push-requires : goal.may_push-requires
may_push-requires g c = sits_in g.met.C.Carrier.seat_prop c.deref.result.now c.args.self.now (sym c.deref.ensures)
