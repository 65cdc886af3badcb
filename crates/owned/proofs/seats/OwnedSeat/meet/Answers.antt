-- Both seats are the queue's by their types.
use Rattle.std.proofs.Common.{sym, ◌∙◌, subst}
use Rattle.owned.proofs.SeatShares.{sits_in}
use Rattle.owned.proofs.seats.OwnedSeat.meet.Goals as goal

pub meet-requires-clause-one : goal.meet-requires-clause-one
meet-requires-clause-one g c = sits_in g.met.C.Carrier.seat_prop c.deref.result.now c.args.self.now (sym c.deref.ensures)

pub meet-requires-clause-other : goal.meet-requires-clause-other
meet-requires-clause-other g c = sits_in g.met.C.Carrier.seat_prop c.deref.result.now c.args.other.now (c.requires ∙ sym c.deref.ensures)

pub invariant_of-self : goal.invariant_of-self
invariant_of-self g c = record { sits = subst (λ q. ∥ g.C.Carrier.is_seat q c.meet.new.one ∥₁) c.deref.ensures ∣ c.meet.ensures.one ∣₁ }

pub invariant_of-other : goal.invariant_of-other
invariant_of-other g c = record { sits = subst (λ q. ∥ g.C.Carrier.is_seat q c.meet.new.other ∥₁) (c.deref.ensures ∙ sym c.requires) ∣ c.meet.ensures.other ∣₁ }
