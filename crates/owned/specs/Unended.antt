-- A queue that wasn't ended by its seats.
use Rattle.std.specs.Prelude.{◌≡◌, ℕ, ◌+◌, ◌≤◌, List, [], ◌∷◌, ◌++◌, map, vec_capacity}
use Rattle.std.specs.List.{All}
use Rattle.carriers.specs.declared.queues.Carrier.{Ghosts}
use Rattle.owned.specs.declared.seats.OwnedSeat.{OwnedSeat}
use Rattle.owned.specs.declared.ends.EndRoom.{EndRoom}
use Rattle.owned.specs.declared.ends.Unended.{Unended}
use Rattle.owned.specs.declared.ends.Unended.TheVariants.{InUse, Memory, Raced}
use Rattle.owned.specs.Owned.{queue_of, seat_of}

module _ {C A S : Type 0} {carrier : Ghosts C A S} where
  -- the queue comes back with its seats: as they were; or with one share, and the seats without, which are still its
  abbrev pub GivesBack : OwnedSeat C A S carrier → List (OwnedSeat C A S carrier) → Unended C A S carrier → Type 0
  GivesBack one others (InUse same more) = (same ≡ one) × (more.items ≡ others)
  GivesBack one others (Memory same more) = (same ≡ one) × (more.items ≡ others)
  GivesBack one others (Raced queue seats) =
      (queue.value ≡ queue_of one) × (seats.items ≡ map seat_of others ++ seat_of one ∷ []) × All (carrier.is_seat queue.value) seats.items

-- there is room for what is left of a queue, and for one seat and so many others
pub record HasEndRoom {C A S R E : Type 0} (has_room : C → R → Type 0) (queue : C) (others : ℕ) (room : EndRoom C R E A S) : Type 0 where
  pub values : has_room queue room.values
  pub none : room.seats.items ≡ []
  pub seats : others + 1 ≤ vec_capacity room.seats
