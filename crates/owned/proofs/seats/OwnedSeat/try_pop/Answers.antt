-- The seat is its queue's by its type.
use Rattle.std.proofs.Common.{sym}
use Rattle.owned.proofs.SeatShares.{sits_in}
use Rattle.owned.proofs.seats.OwnedSeat.try_pop.Goals as goal

pub try_pop-requires-clause-seat : goal.try_pop-requires-clause-seat
try_pop-requires-clause-seat g c = sits_in g.met.C.Carrier.seat_prop c.deref.result.now c.args.self.now (sym c.deref.ensures)
