-- What a seat's role says of what its number permits.
use Rattle.std.proofs.Common.{◌≡◌, ◌-◌, ◌≤◌, ◌↔◌, IsTrue, Some, IsSomeAnd, slice_get, sym, subst}
use Rattle.std.specs.Coded.{le_prop}
use Rattle.std.proofs.Math.Logic.{∥∥₁_elim}
use Rattle.history.specs.Seats.{Permit, MayPush, MayPop}
use Rattle.step_machine.proofs.Reached.{mover_in_range}
use Rattle.node_arena.specs.Arenas.{Arena}
use Rattle.node_arena.specs.declared.seats.Seat.{Seat}
use Rattle.node_arena.specs.Plans.{may_push, may_pop, permit_of}
use Rattle.node_arena.specs.Seats.{IsSeat, view, permits_of, known_of}
use Rattle.node_arena.proofs.Entering.{permits-at}

module _ {T : Type 0} (r : Arena) (s : Seat T) (h : IsSeat r s) where
  at : slice_get (permits_of r) ((view s).number - 1) ≡ Some (permit_of s.role)
  at = subst (λ n. slice_get (permits_of r) (n - 1) ≡ Some (permit_of s.role)) h.sits.number (permits-at r.plan.roles (s.number - 1) s.role h.sits.role)

  -- seats are numbered from 1
  numbered : 1 ≤ (view s).number
  numbered = ∥∥₁_elim h.sits.fitted le_prop (λ f. (mover_in_range f.trace.world (view s).number (view s).actor f.fits.actor).0)

  -- a seat whose role may push may push by its number, and the other way round
  pub push_permits : IsTrue (may_push s.role) ↔ MayPush (permits_of r) (known_of s).number
  push_permits = (
    λ t. (numbered, subst (λ o. IsSomeAnd o (λ (p : Permit). IsTrue p.pushes)) (sym at) t),
    λ m. subst (λ o. IsSomeAnd o (λ (p : Permit). IsTrue p.pushes)) at m.1,
  )

  -- the same of pops
  pub pop_permits : IsTrue (may_pop s.role) ↔ MayPop (permits_of r) (known_of s).number
  pop_permits = (
    λ t. (numbered, subst (λ o. IsSomeAnd o (λ (p : Permit). IsTrue p.pops)) (sym at) t),
    λ m. subst (λ o. IsSomeAnd o (λ (p : Permit). IsTrue p.pops)) at m.1,
  )
