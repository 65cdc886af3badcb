-- The seat is its queue's by its type.
use Rattle.std.proofs.Common.{sym}
use Rattle.owned.proofs.SeatShares.{sits_in}
use Rattle.owned.proofs.seats.OwnedSeat.act.Goals as goal

pub act-requires-clause-seat : goal.act-requires-clause-seat
act-requires-clause-seat g c = sits_in g.met.C.Carrier.seat_prop c.deref.result.now c.args.self.now (sym c.deref.ensures)
