-- What the calls of a queue tell, in words of its seats.
use Rattle.std.proofs.Common.{◌≡◌, IsTrue, sym, subst, ◌∙◌}
use Rattle.history.specs.Seats.{MayPush, MayPop}
use Rattle.node_arena.specs.Arenas.{Arena}
use Rattle.node_arena.specs.declared.seats.Seat.{Seat}
use Rattle.node_arena.specs.Plans.{may_push, may_pop}
use Rattle.node_arena.specs.Seats.{IsReady, KeepsName, known_of, permits_of, role_of}
use Rattle.node_arena.proofs.Permits.{push_permits, pop_permits}

-- a seat that keeps its name keeps the number that it knows
pub same_number : {T : Type 0} (r : Arena) (s t : Seat T) → IsReady r s → IsReady r t → KeepsName s t → (known_of t).number ≡ (known_of s).number
same_number r s t h g same = sym g.seat.sits.number ∙ same.number ∙ h.seat.sits.number

-- a seat with the role of one that may push may push too
pub still_pushes : {T : Type 0} (r : Arena) (s t : Seat T) → IsReady r s → role_of t ≡ role_of s → MayPush (permits_of r) (known_of s).number → IsTrue (may_push (role_of t))
still_pushes r s t h same m = subst (λ x. IsTrue (may_push x)) (sym same) ((push_permits r s h.seat).1 m)

-- the same of a pop
pub still_pops : {T : Type 0} (r : Arena) (s t : Seat T) → IsReady r s → role_of t ≡ role_of s → MayPop (permits_of r) (known_of s).number → IsTrue (may_pop (role_of t))
still_pops r s t h same m = subst (λ x. IsTrue (may_pop x)) (sym same) ((pop_permits r s h.seat).1 m)
