-- The seat is the queue's, and may make this call, by the lease's type.
use Rattle.std.proofs.Common.{ap, sym, ◌∙◌}
use Rattle.seat_pool.proofs.Kept.{sits, still, may_pop}
use Rattle.seat_pool.proofs.leases.Lease.pop.Goals as goal

pub pop-requires-clause-seat : goal.pop-requires-clause-seat
pop-requires-clause-seat g c κs within = let held = c.args.self.now.held in
    sits g.C.Carrier.is_seat g.C.Carrier.permits g.C.Carrier.known g.met.C.Carrier.seat_prop held.home.value c.deref.result.now.home (c.args.self.now.home ∙ ap (λ s. s.home) (sym c.deref.ensures))
    held.place held.part held.seat held.belongs

pub pop-requires-clause-role : goal.pop-requires-clause-role
pop-requires-clause-role g c κs within = let held = c.args.self.now.held in
    may_pop g.C.Carrier.is_seat g.C.Carrier.permits g.C.Carrier.known g.met.C.Carrier.seat_prop held.home.value c.deref.result.now.home (c.args.self.now.home ∙ ap (λ s. s.home) (sym c.deref.ensures))
    held.place held.part held.seat held.belongs c.requires.part

pub invariant_of-self : goal.invariant_of-self
invariant_of-self g c = let held = c.args.self.now.held in (
  held.taken,
  (
    still g.C.Carrier.is_seat g.C.Carrier.permits g.C.Carrier.known held.home.value c.deref.result.now.home (c.args.self.now.home ∙ ap (λ s. s.home) (sym c.deref.ensures))
        held.place held.part held.seat c.pop.new.seat held.belongs c.pop.ensures.seat c.pop.ensures.number,
    tt,
  ),
)
