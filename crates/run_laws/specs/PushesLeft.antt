-- How many pushes are left, by those that begin.
use Rattle.std.specs.Prelude.{◌≡◌, ℕ, ◌+◌, ◌*◌, ◌<◌, List, Some}
use Rattle.history.specs.declared.refusals.WornWord.TheVariants.{Free as OfFree, Tail as OfTail, Head as OfHead}
use Rattle.history.specs.Seats.{Known}
use Rattle.step_machine.specs.Machine.{AnyMove}
use Rattle.step_machine.specs.EachQueue.{IsWornOut}
use Rattle.node_arena.specs.Traces.{Traced, trace, IsTraced}
use Rattle.node_arena.specs.Plans.{Layout}
use Rattle.node_arena.specs.Rule.{IsRunTo}
use Rattle.node_arena.specs.Arenas.{Arena}
use Rattle.node_arena.specs.declared.seats.Seat.{Seat}
use Rattle.node_arena.specs.Seats.{IsSeat, view}
use Rattle.node_arena.specs.Paths.{IsLater}
use Rattle.arena_queue.specs.PushesLeft.{Leaves}
use Rattle.arena_queue.specs.Lefts.{HasLeft}
use Rattle.arena_queue.specs.declared.left.Left.{Left}
use Rattle.run_laws.specs.Begun.{pushes_begun, under_way}

-- moves lead on to a traced world among which fewer than so many pushes begin, with so many for each that had begun before and
-- not taken effect yet
pub record BeginFewer (before : ℕ) (was t : Traced) (pushes : ℕ) : Type 0 where
  pub moves : List AnyMove
  pub led : trace moves was ≡ Some t
  pub fewer : pushes_begun moves + before * under_way was.world < pushes

-- so many pushes may begin from a traced world on: while fewer do, none of these words is worn out
pub record LastsFor (before : ℕ) (was : Traced) (pushes : ℕ) : Type 0 where
  pub free : (t : Traced) → BeginFewer before was t pushes → IsWornOut t.world OfFree → ⊥
  pub tail : (t : Traced) → BeginFewer before was t pushes → IsWornOut t.world OfTail → ⊥
  pub head : (t : Traced) → BeginFewer before was t pushes → IsWornOut t.world OfHead → ⊥

-- from each traced world on as many pushes may begin as this says by the number of nodes, and by what its counts leave
abbrev pub EachLasts : (before : ℕ) → ((size free tail head : ℕ) → ℕ) → Type 0
EachLasts before left =
    (was : Traced) (free tail head : ℕ) → IsTraced was → Leaves was free tail head →
    LastsFor before was (left was.world.setup.size free tail head)

-- of two moments of a seat: where the counts in the world that its run leads to in the one leave so many pushes, and fewer begin by
-- the moves in between, none of these words is worn out in the world of the other
abbrev pub MomentsLast : (before : ℕ) → ((size free tail head : ℕ) → ℕ) → Type 0 → Type 0
MomentsLast before left T =
    (r : Arena) (s t : Seat T) (was now : Traced) (free tail head : ℕ) → IsSeat r s → (later : IsLater s t) → IsRunTo r.plan (view s).ran was → IsRunTo r.plan (view t).ran now
    → Leaves was free tail head → pushes_begun later.run.0 + before * under_way was.world < left r.plan.setup.size free tail head
    → (IsWornOut now.world OfFree → ⊥) × (IsWornOut now.world OfTail → ⊥) × (IsWornOut now.world OfHead → ⊥)

-- whatever a seat is told to be left, from the traced world in which Free's count was so on as many pushes may begin
abbrev pub EachLeftLasts : (before : ℕ) → Type 0
EachLeftLasts before =
    (z : Layout) (k k' : Known) (left : Left) (h : HasLeft z k left k') → LastsFor before h.free.was left.pushes
