-- The handles of a new queue of words.
use Rattle.std.specs.Prelude.{◌≡◌, ℕ, ◌<◌, ◌≤◌, ◌⊎◌, ◌≢◌, Bool, List, map, length, Result, OnOk, OnErr, IfErr}
use Rattle.std.specs.List.{All}
use Rattle.line_table.specs.declared.lines.Kind.{Kind}
use Rattle.history.specs.declared.refusals.Refusal.TheVariants.{Memory}
use Rattle.carriers.specs.declared.queues.Carrier.{Ghosts}
use Rattle.node_arena.specs.declared.seats.Seat.{Seat}
use Rattle.node_arena.specs.declared.roles.Role.{Role}
use Rattle.node_arena.specs.Plans.{Layout}
use Rattle.node_arena.specs.NewArenas.{IsMade}
use Rattle.value_queue.specs.Queues.{AreNewOf}
use Rattle.value_queue.specs.ValuesSeen.{known_by}
use Rattle.picked.specs.declared.kind_values.AnyValues.{AnyValues}
use Rattle.picked.specs.Splits.{value_limited_plan as limited_plan}
use Rattle.picked.specs.AnyValues.{arena_of, permits_of}
use Rattle.owned.specs.Owned.{queue_of, seat_of}
use Rattle.msq_c.specs.declared.troubles.Trouble.{Trouble}
use Rattle.msq_c.specs.declared.troubles.Trouble.TheVariants.{Refused, BadSize, InUse}
use Rattle.msq_c.specs.Made.{kind_number, role_number, count_for, Asks, IsOutOfRange}
use Rattle.msq_c.specs.WordBlocks.{Owned, Own, seat_in}
use Rattle.msq_c.specs.WordEnds.{AreFull, AreEmpty}
use Rattle.msq_c.specs.WordSeats.{known_at, queue_at}

-- the plan of a queue of words of this kind and so many nodes, of the split for these, with this limit
abbrev pub plan_for : Kind → (nodes limit : ℕ) → List Role → Layout
plan_for kind nodes limit roles = limited_plan kind nodes (count_for nodes limit) roles

-- one of these numbers is out of its range: that of the kind, of which there are two, or one that a queue of numbers refuses too
abbrev pub IsNoWordQueue : (kind nodes limit : ℕ) (roles : List ℕ) → Type 0
IsNoWordQueue kind nodes limit roles = (1 < kind) ⊎ IsOutOfRange kind nodes limit roles

-- these are the seats of one new queue of a plan, each with a share
pub record AreUnused {T : Type 0} {g : Ghosts (AnyValues T) T (Seat T)} (z : Layout) (owned : List (Owned T g)) : Type 0 where
  pub queue : AnyValues T
  pub made : IsMade z (arena_of queue) (map seat_of owned)
  pub one : All (λ s. queue_of s ≡ queue) owned
  pub unused : AreNewOf (permits_of queue) (map (λ s. known_by (seat_of s)) owned)

-- the seat itself of a handle, where there is one
abbrev pub seat_at : {H T : Type 0} {g : Ghosts (AnyValues T) T (Seat T)} (own : H → Own T g) → H → Seat T
seat_at own h = seat_in (own h)

module _ {H : Type 0} (holds : H → Bool) where
  -- a queue of words may be made: its numbers are in their ranges, as of a queue of numbers of one of two kinds, and there is an
  -- empty handle for each role
  pub record MayMake (kind nodes limit : ℕ) (roles : List ℕ) (slots : List H) : Type 0 where
    pub empty : AreEmpty holds slots
    pub count : length roles ≡ length slots
    pub linked : kind ≤ 1
    pub asks : Asks kind nodes limit roles

  -- why no queue is made: a handle is full; else a number is out of its range, or there are fewer handles than roles, or more;
  -- else memory was refused
  abbrev pub RefusesCreate : (kind nodes limit : ℕ) (roles : List ℕ) → List H → Trouble → Type 0
  RefusesCreate kind nodes limit roles slots InUse = AreEmpty holds slots → ⊥
  RefusesCreate kind nodes limit roles slots BadSize =
      AreEmpty holds slots × ((length roles ≢ length slots) ⊎ IsNoWordQueue kind nodes limit roles)
  RefusesCreate kind nodes limit roles slots (Refused refusal) = MayMake kind nodes limit roles slots × (refusal ≡ Memory)
  RefusesCreate kind nodes limit roles slots _ = ⊥

module _ {H T : Type 0} {g : Ghosts (AnyValues T) T (Seat T)} (holds : H → Bool) (own : H → Own T g) where
  -- these handles have all the seats of one new queue of a plan, in their order
  pub record AreMade (z : Layout) (slots : List H) : Type 0 where
    pub queue : AnyValues T
    pub made : IsMade z (arena_of queue) (map (seat_at own) slots)
    pub full : AreFull holds slots
    pub one : All (λ h. queue_at own h ≡ queue) slots
    pub unused : AreNewOf (permits_of queue) (map (known_at own) slots)

  -- these handles have all the seats of one new queue: of the kind and of the roles with these numbers, and of these sizes
  pub record AreAsked (kind nodes limit : ℕ) (roles : List ℕ) (slots : List H) : Type 0 where
    pub layout : Layout
    pub of_kind : kind_number layout.setup.kind ≡ kind
    pub of_roles : map role_number layout.roles ≡ roles
    pub planned : layout ≡ plan_for layout.setup.kind nodes limit layout.roles
    pub made : AreMade layout slots

  -- what the making of a queue answers: the handles are its seats; refused, they are as they were
  pub record AnswersCreate (kind nodes limit : ℕ) (roles : List ℕ) (slots slots' : List H) (out : Result (Unit {0}) Trouble) : Type 0 where
    pub made : OnOk out (AreAsked kind nodes limit roles slots')
    pub might : OnOk out (MayMake holds kind nodes limit roles slots)
    pub same : OnErr out (slots' ≡ slots)
    pub refused : IfErr out (RefusesCreate holds kind nodes limit roles slots)
