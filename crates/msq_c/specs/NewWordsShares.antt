-- The handles of a new queue of three words whose calls are stepped.
use Rattle.std.specs.Prelude.{◌≡◌, ℕ, ◌+◌, ◌*◌, ◌-◌, ◌^◌, true, min, List, map, length, Result}
use Rattle.node_arena.specs.declared.roles.Role.{Role}
use Rattle.node_arena.specs.declared.seats.Seat.{Seat}
use Rattle.node_arena.specs.NewArenas.{IsMade}
use Rattle.node_arena.specs.Plans.{Layout}
use Rattle.picked.specs.declared.either.EitherQueue.TheVariants.{First, Second}
use Rattle.picked.specs.declared.kind_values.AnyValues.{AnyValues}
use Rattle.picked.specs.AnyValues.{arena_of}
use Rattle.picked.specs.Either.{as_first, as_second}
use Rattle.ring_queue.specs.declared.roles.Role.{Role as RingRole}
use Rattle.ring_queue.specs.declared.seats.Seat.{Seat as RingSeat}
use Rattle.ring_queue.specs.NewRings as ring
use Rattle.ring_values.specs.declared.queue.RingValues.{RingValues}
use Rattle.ring_values.specs.Queues.{ring_of}
use Rattle.msq_c.specs.declared.troubles.Trouble.{Trouble}
use Rattle.msq_c.specs.declared.words.MsqWords.{MsqWords}
use Rattle.msq_c.specs.declared.words_share_handles.MsqWordsShare.{MsqWordsShare}
use Rattle.msq_c.specs.Made.{kind_number, role_number, ring_role_number}
use Rattle.msq_c.specs.NewShares.{FillsShares}
use Rattle.msq_c.specs.WordMade.{plan_for}
use Rattle.msq_c.specs.WordsQueues.{WordsQueue, WordsSeat}
use Rattle.msq_c.specs.WordsShares.{is_full, block_at}

-- the last place of a ring of values with room for so many, by so many seats, each of which may have one in hand, with this limit: so
-- many pushes are left at first, and more, as its slots are fewer than twice as many; or the greatest place there is
abbrev pub places_for : (values limit seats : ℕ) → ℕ
places_for values limit seats = min (limit + 2 * (values + seats)) (2 ^ 62 - 1)

-- a new queue of nodes, and its seats: of the kind and of the roles with these numbers, and of these sizes
pub record IsNewNodes (kind nodes limit : ℕ) (numbers : List ℕ) (q : AnyValues MsqWords) (seats : List WordsSeat) : Type 0 where
  pub layout : Layout
  pub of_kind : kind_number layout.setup.kind ≡ kind
  pub of_roles : map role_number layout.roles ≡ numbers
  pub planned : layout ≡ plan_for layout.setup.kind nodes limit layout.roles
  pub within : List (Seat MsqWords)
  pub those : seats ≡ map as_first within
  pub made : IsMade layout (arena_of q) within

-- a new ring of values, and its seats: of the roles with these numbers, and of these sizes
pub record IsNewRing (values limit : ℕ) (numbers : List ℕ) (q : RingValues MsqWords) (seats : List WordsSeat) : Type 0 where
  pub roles : List RingRole
  pub of_roles : map ring_role_number roles ≡ numbers
  pub within : List (RingSeat MsqWords)
  pub those : seats ≡ map as_second within
  pub made : ring.IsMadeFor true values (places_for values limit (length numbers)) roles (ring_of q) within

-- a new queue of the kind with this number, and its seats
abbrev pub IsNew : (kind nodes limit : ℕ) (numbers : List ℕ) → WordsQueue → List WordsSeat → Type 0
IsNew kind nodes limit numbers (First q) seats = IsNewNodes kind nodes limit numbers q seats
IsNew kind nodes limit numbers (Second q) seats = (kind ≡ 2) × IsNewRing nodes limit numbers q seats

-- handles of a queue of three words have all the shares of a new one
abbrev pub AnswersShares : (kind capacity limit : ℕ) (hs hs' : List MsqWordsShare) → Result (Unit {0}) Trouble → Type 0
AnswersShares = FillsShares IsNew is_full block_at
