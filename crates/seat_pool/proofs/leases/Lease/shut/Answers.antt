-- The seat is the queue's, and may make this call, by the lease's type.
use Rattle.std.proofs.Common.{ap, sym, ◌∙◌}
use Rattle.seat_pool.proofs.Kept.{sits, still, may_push}
use Rattle.seat_pool.proofs.leases.Lease.shut.Goals as goal

pub shut-requires-clause-seat : goal.shut-requires-clause-seat
shut-requires-clause-seat g c κs within = let held = c.args.self.now.held in
    sits g.C.Carrier.is_seat g.C.Carrier.permits g.C.Carrier.known g.met.C.Carrier.seat_prop held.home.value c.deref.result.now.home (c.args.self.now.home ∙ ap (λ s. s.home) (sym c.deref.ensures))
    held.place held.part held.seat held.belongs

pub shut-requires-clause-role : goal.shut-requires-clause-role
shut-requires-clause-role g c κs within = let held = c.args.self.now.held in
    may_push g.C.Carrier.is_seat g.C.Carrier.permits g.C.Carrier.known g.met.C.Carrier.seat_prop held.home.value c.deref.result.now.home (c.args.self.now.home ∙ ap (λ s. s.home) (sym c.deref.ensures))
    held.place held.part held.seat held.belongs c.requires.part

pub invariant_of-self : goal.invariant_of-self
invariant_of-self g c = let held = c.args.self.now.held in (
  held.taken,
  (
    still g.C.Carrier.is_seat g.C.Carrier.permits g.C.Carrier.known held.home.value c.deref.result.now.home (c.args.self.now.home ∙ ap (λ s. s.home) (sym c.deref.ensures))
        held.place held.part held.seat c.shut.new.seat held.belongs c.shut.ensures.seat c.shut.ensures.number,
    tt,
  ),
)
