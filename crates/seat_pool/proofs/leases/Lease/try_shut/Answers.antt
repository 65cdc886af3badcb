-- The seat is the queue's, and may make this call, by the lease's type.
use Rattle.std.proofs.Common.{ap, sym, ◌∙◌}
use Rattle.seat_pool.proofs.Kept.{sits, still, may_push}
use Rattle.seat_pool.proofs.leases.Lease.try_shut.Goals as goal

pub try_shut-requires-clause-seat : goal.try_shut-requires-clause-seat
try_shut-requires-clause-seat g c = let held = c.args.self.now.held in
    sits g.C.Carrier.is_seat g.C.Carrier.permits g.C.Carrier.known g.met.C.Carrier.seat_prop held.home.value c.deref.result.now.home (c.args.self.now.home ∙ ap (λ s. s.home) (sym c.deref.ensures))
    held.place held.part held.seat held.belongs

pub try_shut-requires-clause-role : goal.try_shut-requires-clause-role
try_shut-requires-clause-role g c = let held = c.args.self.now.held in
    may_push g.C.Carrier.is_seat g.C.Carrier.permits g.C.Carrier.known g.met.C.Carrier.seat_prop held.home.value c.deref.result.now.home (c.args.self.now.home ∙ ap (λ s. s.home) (sym c.deref.ensures))
    held.place held.part held.seat held.belongs c.requires.part

pub invariant_of-self : goal.invariant_of-self
invariant_of-self g c = let held = c.args.self.now.held in (
  held.taken,
  (
    still g.C.Carrier.is_seat g.C.Carrier.permits g.C.Carrier.known held.home.value c.deref.result.now.home (c.args.self.now.home ∙ ap (λ s. s.home) (sym c.deref.ensures))
        held.place held.part held.seat c.try_shut.new.seat held.belongs c.try_shut.ensures.seat c.try_shut.ensures.number,
    tt,
  ),
)
