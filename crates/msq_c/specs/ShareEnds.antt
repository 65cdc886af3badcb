-- The end of a queue whose calls are stepped, by handles H, of which each tells whether it is full, and which share it owns.
use Rattle.std.specs.Prelude.{◌≡◌, ℕ, ◌+◌, Bool, List, [], length, map, Result, true}
use Rattle.std.specs.List.{All}
use Rattle.history.specs.Ends.{Closes}
use Rattle.history.specs.declared.refusals.Refusal.TheVariants.{Memory}
use Rattle.history.specs.declared.rests.Rest.{Rest}
use Rattle.carriers.specs.declared.numbered.Numbers.{Numbers}
use Rattle.carriers.specs.declared.queues.Carrier.{Ghosts}
use Rattle.carriers.specs.Numbers.{fifo_of}
use Rattle.shared_queue.specs.declared.stepped.SteppedQueue.{SteppedQueue}
use Rattle.shared_queue.specs.Sharing.{stepped_at, share_queue, share_seat}
use Rattle.msq_c.specs.declared.rests.MsqRest.{MsqRest}
use Rattle.msq_c.specs.declared.share_blocks.ShareBlock.{ShareBlock}
use Rattle.msq_c.specs.declared.share_handles.MsqShare.{MsqShare}
use Rattle.msq_c.specs.declared.troubles.Trouble.{Trouble}
use Rattle.msq_c.specs.declared.troubles.Trouble.TheVariants.{Refused, BadSize, NoHandle, InUse, Raced}
use Rattle.msq_c.specs.declared.values.MsqValue.{MsqValue}
use Rattle.msq_c.specs.Ends.{HasRest, RestRoom, IsRoomless}
use Rattle.msq_c.specs.NewShares.{share_at}
use Rattle.msq_c.specs.Queues.{Queue, SeatOf, EndOf, known_of, permits_of, EndsWith}
use Rattle.msq_c.specs.Rests.{IsRest, WritesLeft, AnswersEnd}
use Rattle.msq_c.specs.Shares.{is_full, block_at}
use Rattle.msq_c.specs.WordEnds.{AreFull, AreEmpty}

module _ {H C A S : Type 0} {g : Ghosts C A S} (own : H → ShareBlock C A S g) where
  -- the queue of a handle
  abbrev pub queue_at : H → C
  queue_at h = share_queue (share_at own h)

  -- the seat of a handle
  abbrev pub seat_at : H → S
  seat_at h = share_seat (share_at own h)

  -- a handle is of the same queue
  abbrev pub IsWith : H → H → Type 0
  IsWith last h = stepped_at (share_at own h) ≡ stepped_at (share_at own last)

  -- the queue of these handles was closed by all of them, with its end
  pub record ClosesHandles {R E : Type 0} (Closed : C → List S → R → Type 0) (Ended : C → E → R → Type 0) (slots : List H) (rest : R) (end : E) : Type 0 where
    pub queue : C
    pub one : All (λ h. queue_at h ≡ queue) slots
    pub closes : Closed queue (map seat_at slots) rest
    pub ends : Ended queue end rest

-- why there is no room for the end of the queue of these handles: there are none; it is a ring that has further ones; or memory was
-- refused
abbrev pub RefusesRoom : {H : Type 0} → List H → Trouble → Type 0
RefusesRoom slots BadSize = slots ≡ []
RefusesRoom slots refusal = IsRoomless refusal

module _ {H C A S : Type 0} {g : Ghosts C A S} (holds : H → Bool) (own : H → ShareBlock C A S g) where
  -- the full ones of these handles are of one queue
  pub record AreOfOne (slots : List H) : Type 0 where
    pub queue : SteppedQueue C
    pub one : All (λ h. holds h ≡ true → stepped_at (share_at own h) ≡ queue) slots

  -- full handles keep their seats
  pub record KeepSeats (slots slots' : List H) : Type 0 where
    pub full : AreFull holds slots'
    pub seats : map own slots' ≡ map own slots

  -- there is room for the end of the queue of full handles by all of them, whichever it is
  abbrev pub HasRoomOf : {R : Type 0} (has_room : C → ℕ → R → Type 0) → List H → R → Type 0
  HasRoomOf has_room slots room = (q : C) (others : ℕ) → length slots ≡ others + 1 → All (λ h. holds h ≡ true → queue_at own h ≡ q) slots → has_room q (others + 1) room

  -- why a queue isn't closed: a handle is empty, and nothing changed; there are no handles; it is a ring that has further ones, or
  -- memory was refused, and then all keep their seats; or others have a share of it, and then these are empty
  abbrev pub RefusesClose : List H → List H → Trouble → Type 0
  RefusesClose slots slots' NoHandle = (AreFull holds slots → ⊥) × (slots' ≡ slots)
  RefusesClose slots slots' BadSize = slots ≡ []
  RefusesClose slots slots' InUse = KeepSeats slots slots'
  RefusesClose slots slots' Raced = AreEmpty holds slots'
  RefusesClose slots slots' (Refused refusal) = (refusal ≡ Memory) × KeepSeats slots slots'
  RefusesClose slots slots' _ = ⊥

-- there is room for the end of a queue of numbers by so many seats, which are enough for it
abbrev pub has_numbers_room : Numbers Queue → ℕ → RestRoom → Type 0
has_numbers_room q count room = HasRest (fifo_of q) count room

-- a queue of numbers was closed by these seats, with this rest
abbrev pub closes_numbers : Numbers Queue → List SeatOf → Rest → Type 0
closes_numbers q seats rest = Closes (permits_of (fifo_of q)) (map known_of seats) rest

-- this is the end of a queue of numbers, and it leaves this rest
abbrev pub ends_numbers : Numbers Queue → EndOf → Rest → Type 0
ends_numbers q end rest = EndsWith (fifo_of q) end rest

-- what the end of a queue of numbers answers
abbrev pub AnswersClose : (slots slots' : List MsqShare) (vs vs' : List MsqValue) (told told' : MsqRest) → Result (Unit {0}) Trouble → Type 0
AnswersClose = AnswersEnd (ClosesHandles block_at closes_numbers ends_numbers) (AreEmpty is_full) (RefusesClose is_full block_at) IsRest WritesLeft
