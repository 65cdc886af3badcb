-- Both seats are the queue's by the types of their leases.
use Rattle.std.proofs.Common.{ap, sym, ◌∙◌}
use Rattle.seat_pool.proofs.Kept.{sits, still}
use Rattle.seat_pool.proofs.leases.Lease.meet.Goals as goal

pub meet-requires-clause-one : goal.meet-requires-clause-one
meet-requires-clause-one g c = let held = c.args.self.now.held in
    sits g.C.Carrier.is_seat g.C.Carrier.permits g.C.Carrier.known g.met.C.Carrier.seat_prop held.home.value c.deref.result.now.home (c.args.self.now.home ∙ ap (λ s. s.home) (sym c.deref.ensures))
    held.place held.part held.seat held.belongs

pub meet-requires-clause-other : goal.meet-requires-clause-other
meet-requires-clause-other g c = let held = c.args.other.now.held in
    sits g.C.Carrier.is_seat g.C.Carrier.permits g.C.Carrier.known g.met.C.Carrier.seat_prop held.home.value c.deref.result.now.home
    (c.args.other.now.home ∙ ap (λ s. s.home) (c.requires ∙ sym c.deref.ensures)) held.place held.part held.seat held.belongs

pub invariant_of-self : goal.invariant_of-self
invariant_of-self g c = let held = c.args.self.now.held in (
  held.taken,
  (
    still g.C.Carrier.is_seat g.C.Carrier.permits g.C.Carrier.known held.home.value c.deref.result.now.home (c.args.self.now.home ∙ ap (λ s. s.home) (sym c.deref.ensures))
        held.place held.part held.seat c.meet.new.one held.belongs c.meet.ensures.one c.meet.ensures.meets.first.number,
    tt,
  ),
)

pub invariant_of-other : goal.invariant_of-other
invariant_of-other g c = let lease = c.args.other.now in let held = lease.held in (
  (
    held.taken,
    (
      still g.C.Carrier.is_seat g.C.Carrier.permits g.C.Carrier.known held.home.value c.deref.result.now.home (lease.home ∙ ap (λ s. s.home) (c.requires ∙ sym c.deref.ensures))
          held.place held.part held.seat c.meet.new.other held.belongs c.meet.ensures.other c.meet.ensures.meets.second.number,
      tt,
    ),
  ),
  (lease.home, (lease.here, (lease.table, tt))),
)
