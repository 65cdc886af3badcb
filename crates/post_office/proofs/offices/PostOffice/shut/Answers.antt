-- The seat is its queue's by its type, and may push.
use Rattle.post_office.proofs.Shares.{office_in, office_stays}
use Rattle.post_office.proofs.offices.PostOffice.shut.Goals as goal

pub shut-requires-clause-seat : goal.shut-requires-clause-seat
shut-requires-clause-seat g c κs within = (office_in g.met.C.Carrier.seat_prop c.deref.result.now c.args.self.now c.deref.ensures).0

pub shut-requires-clause-role : goal.shut-requires-clause-role
shut-requires-clause-role g c κs within = (office_in g.met.C.Carrier.seat_prop c.deref.result.now c.args.self.now c.deref.ensures).1

pub invariant_of-self : goal.invariant_of-self
invariant_of-self g c =
    record { sits = office_stays g.met.C.Carrier.seat_prop c.deref.result.now c.args.self.now c.deref.ensures c.shut.new.seat c.shut.ensures.seat c.shut.ensures.number }
