-- The end of a queue of words, by handles.
use Rattle.std.specs.Prelude.{◌≡◌, ℕ, ◌+◌, Bool, List, [], length, map, true, false}
use Rattle.std.specs.List.{All, AllPass}
use Rattle.history.specs.declared.refusals.Refusal.TheVariants.{Memory}
use Rattle.carriers.specs.declared.queues.Carrier.{Ghosts}
use Rattle.carriers.specs.Ends.{ClosesOf}
use Rattle.carriers.specs.declared.rests.RestOf.{RestOf}
use Rattle.node_arena.specs.declared.ended.Ended.{Ended}
use Rattle.node_arena.specs.declared.seats.Seat.{Seat}
use Rattle.value_queue.specs.declared.ends.Room.{Room}
use Rattle.value_queue.specs.Ends.{HasRoom, LeavesValues}
use Rattle.picked.specs.declared.kind_values.AnyValues.{AnyValues}
use Rattle.picked.specs.AnyValues.{arena_of, permits_of}
use Rattle.owned.specs.declared.ends.EndRoom.{EndRoom}
use Rattle.owned.specs.Unended.{HasEndRoom}
use Rattle.msq_c.specs.declared.troubles.Trouble.{Trouble}
use Rattle.msq_c.specs.declared.troubles.Trouble.TheVariants.{Refused, BadSize, NoHandle, InUse, Raced}
use Rattle.msq_c.specs.WordBlocks.{Owned, Own, owned_in}
use Rattle.msq_c.specs.WordSeats.{known_at, queue_at}

module _ {H : Type 0} (holds : H → Bool) where
  -- each handle is full
  abbrev pub AreFull : List H → Type 0
  AreFull slots = AllPass holds slots

  -- each handle is empty
  abbrev pub AreEmpty : List H → Type 0
  AreEmpty slots = All (λ h. holds h ≡ false) slots

-- these handles are full of these blocks, in their order
pub record ArePut {H O : Type 0} (holds : H → Bool) (own : H → O) (blocks : List O) (slots : List H) : Type 0 where
  pub full : AreFull holds slots
  pub those : map own slots ≡ blocks

-- room for the end of a queue
abbrev pub WordRoom : Type 0 → Type 0
WordRoom T = EndRoom (AnyValues T) (Room T) (Ended T) T (Seat T)

-- there is room for the end of a queue by a seat and so many others
abbrev pub HasAnyRoom : {T : Type 0} → AnyValues T → (others : ℕ) → WordRoom T → Type 0
HasAnyRoom queue others room = HasEndRoom (λ q. HasRoom (arena_of q)) queue others room

module _ {H T : Type 0} {g : Ghosts (AnyValues T) T (Seat T)} (own : H → Own T g) where
  -- the seat of a handle, with its share
  abbrev pub owned_at : H → Owned T g
  owned_at h = owned_in (own h)

  -- the queue of these handles was closed by all of them, with its end
  pub record ClosesHandles (slots : List H) (rest : RestOf T) (end : Ended T) : Type 0 where
    pub queue : AnyValues T
    pub one : All (λ h. queue_at own h ≡ queue) slots
    pub closes : ClosesOf (permits_of queue) (map (known_at own) slots) rest
    pub ends : LeavesValues (arena_of queue) end rest

-- why there is no such room: there are no handles, or memory was refused
abbrev pub RefusesRoom : {H : Type 0} → List H → Trouble → Type 0
RefusesRoom slots BadSize = slots ≡ []
RefusesRoom slots (Refused refusal) = refusal ≡ Memory
RefusesRoom slots _ = ⊥

module _ {H T : Type 0} {g : Ghosts (AnyValues T) T (Seat T)} (holds : H → Bool) (own : H → Own T g) where
  -- the full ones of these handles are of one queue
  pub record AreOfOne (slots : List H) : Type 0 where
    pub queue : AnyValues T
    pub one : All (λ h. holds h ≡ true → queue_at own h ≡ queue) slots

  -- full handles keep their seats
  pub record KeepSeats (slots slots' : List H) : Type 0 where
    pub full : AreFull holds slots'
    pub seats : map own slots' ≡ map own slots

  -- there is room for the end of the queue of full handles, whichever it is
  abbrev pub HasRoomOf : List H → WordRoom T → Type 0
  HasRoomOf slots room = (q : AnyValues T) (others : ℕ) → length slots ≡ others + 1 → All (λ h. holds h ≡ true → queue_at own h ≡ q) slots → HasAnyRoom q others room

  -- why a queue isn't closed: a handle is empty, and nothing changed; there are no handles; others have a share of it, or memory
  -- was refused, and then all handles keep their seats; or others got a share meanwhile, and then all are empty
  abbrev pub RefusesClose : List H → List H → Trouble → Type 0
  RefusesClose slots slots' NoHandle = (AreFull holds slots → ⊥) × (slots' ≡ slots)
  RefusesClose slots slots' BadSize = slots ≡ []
  RefusesClose slots slots' InUse = KeepSeats slots slots'
  RefusesClose slots slots' Raced = AreEmpty holds slots'
  RefusesClose slots slots' (Refused refusal) = (refusal ≡ Memory) × KeepSeats slots slots'
  RefusesClose slots slots' _ = ⊥
