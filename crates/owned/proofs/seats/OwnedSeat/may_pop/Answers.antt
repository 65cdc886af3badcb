-- The seat is its queue's by its type.
use Rattle.std.proofs.Common.{sym}
use Rattle.owned.proofs.SeatShares.{sits_in}
use Rattle.owned.proofs.seats.OwnedSeat.may_pop.Goals as goal

pub may_pop-requires : goal.may_pop-requires
may_pop-requires g c = sits_in g.met.C.Carrier.seat_prop c.deref.result.now c.args.self.now (sym c.deref.ensures)
