-- The seats of a queue that works on jobs: workers, and one that hands out the jobs.
use Rattle.std.specs.Prelude.{◌≡◌, ℕ, ◌+◌, ◌-◌, ◌^◌, ◌<◌, List, [], ◌∷◌, ◌++◌, length, replicate, Some, slice_get}
use Rattle.counted_ref.specs.Ref.{count_bits}
use Rattle.line_table.specs.declared.lines.Kind.{Kind}
use Rattle.history.specs.Seats.{Permit, Known}
use Rattle.node_arena.specs.declared.roles.Role.{Role}
use Rattle.node_arena.specs.declared.roles.Role.TheVariants.{Giver, Taker}
use Rattle.node_arena.specs.Plans.{Layout}
use Rattle.node_arena.specs.NewArenas.{plan}
use Rattle.node_arena.specs.Seats.{plan_of}
use Rattle.picked.specs.Picked.{AnyQueue, any_arena_of}
use Rattle.ring_queue.specs.declared.queue.RingQueue.{RingQueue}
use Rattle.ring_queue.specs.declared.roles.Role.{Role as RingRole}
use Rattle.ring_queue.specs.declared.roles.Role.TheVariants as ring
use Rattle.ring_queue.specs.declared.seats.Seat.{Seat}
use Rattle.ring_queue.specs.NewRings.{IsMade}
use Rattle.picked.specs.declared.either.EitherQueue.{EitherQueue}
use Rattle.picked.specs.declared.either.EitherQueue.TheVariants.{First, Second}
use Rattle.line_table.specs.declared.kinds.QueueKind.{QueueKind}
use Rattle.line_table.specs.declared.kinds.QueueKind.TheVariants.{Linked, Ring}
use Rattle.dispatcher.specs.Workers.{IsTaker, IsGiver}

-- the same role for each worker, and one more for who hands out the jobs
abbrev pub crew_of : {R : Type 0} → (taker giver : R) → ℕ → List R
crew_of taker giver workers = replicate workers taker ++ giver ∷ []

-- a role that takes for each worker, and one that gives
abbrev pub crew_roles : ℕ → List Role
crew_roles workers = crew_of Taker Giver workers

-- the same of a ring
abbrev pub ring_crew_roles : ℕ → List RingRole
ring_crew_roles workers = crew_of ring.Taker ring.Giver workers

-- these are a seat for each worker, which may pop, and one more, the last, which may push; all are the queue's, in no call
pub record IsCrew {Q S : Type 0} (is_seat : Q → S → Type 0) (permits : Q → List Permit) (known : S → Known) (queue : Q) (workers : ℕ) (seats : List S) : Type 0 where
  pub count : length seats ≡ workers + 1
  pub takers : (k : ℕ) (s : S) → slice_get seats k ≡ Some s → k < workers → IsTaker is_seat permits known queue s
  pub giver : (s : S) → slice_get seats workers ≡ Some s → IsGiver is_seat permits known queue s

-- what a queue is made for that hands out jobs: its kind, so many nodes, the greatest count of all, and the crew's roles
abbrev pub crew_plan : Kind → (nodes workers : ℕ) → Layout
crew_plan kind nodes workers = plan 24 kind nodes (2 ^ count_bits 24 - 1) (crew_roles workers)

-- a ring was made for jobs: it has room for so many values, its places go up to the greatest one of all, and its seats have the
-- crew's roles
abbrev pub IsCrewRing : (values workers : ℕ) → RingQueue (Unit {0}) → Type 0
IsCrewRing values workers q = (seats : List (Seat (Unit {0}))) × IsMade values (2 ^ 62 - 1) (ring_crew_roles workers) q seats

-- a queue was made for jobs: of this kind, with so many nodes, or values that make a ring full, and a crew of so many workers
abbrev pub IsCrewQueue : QueueKind → (nodes workers : ℕ) → EitherQueue AnyQueue (RingQueue (Unit {0})) → Type 0
IsCrewQueue (Linked kind) nodes workers (First q) = plan_of (any_arena_of q) ≡ crew_plan kind nodes workers
IsCrewQueue Ring nodes workers (Second q) = IsCrewRing nodes workers q
IsCrewQueue kind nodes workers q = ⊥
