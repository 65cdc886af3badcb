-- A queue of values of either kind as a queue with seats.
use Rattle.std.specs.Prelude.{◌≡◌, ℕ, List, true}
use Rattle.history.specs.Seats.{Permit}
use Rattle.history.specs.declared.refusals.Refusal.{Refusal}
use Rattle.history.specs.declared.refusals.Refusal.TheVariants.{Closed}
use Rattle.node_arena.specs.Arenas.{Arena}
use Rattle.node_arena.specs.declared.seats.Seat.{Seat}
use Rattle.node_arena.specs.Seats as seats
use Rattle.node_arena.specs.Seats.{IsReady, HasNoSlot, carries_of}
use Rattle.arena_queue.specs.Answers.{PopCaused, ShutCaused}
use Rattle.value_queue.specs.Pushes.{PushCaused}
use Rattle.picked.specs.Worn.{Worn}
use Rattle.picked.specs.Values as picked
use Rattle.picked.specs.declared.kind_values.AnyValues.{AnyValues}
use Rattle.picked.specs.declared.kind_values.AnyValues.TheVariants.{NonBlocking, TwoLock}

module _ {T : Type 0} where
  -- the arena of a queue
  abbrev pub arena_of : AnyValues T → Arena
  arena_of (NonBlocking q) = picked.arena_of q
  arena_of (TwoLock q) = picked.arena_of q

  -- which words stop its calls: those that stop its kind's
  abbrev pub worn_of : AnyValues T → Worn
  worn_of (NonBlocking q) = picked.worn_of q
  worn_of (TwoLock q) = picked.worn_of q

  -- what each seat of a queue may do
  abbrev pub permits_of : AnyValues T → List Permit
  permits_of q = seats.permits_of (arena_of q)

  -- a seat of a queue, in no call, with no slot
  abbrev pub IsQueueSeat : AnyValues T → Seat T → Type 0
  IsQueueSeat q s = IsReady (arena_of q) s × HasNoSlot s

  -- the arena of a queue carries values
  pub carries : (q : AnyValues T) → carries_of (arena_of q) ≡ true
  carries (NonBlocking q) = picked.carries q
  carries (TwoLock q) = picked.carries q

  -- why a push is refused: for a cause of its kind
  abbrev pub PushCause : AnyValues T → Seat T → Seat T → (turns : ℕ) → Refusal → Type 0
  PushCause q = PushCaused (worn_of q).push (arena_of q)

  -- why a pop is refused: for a cause of its kind
  abbrev pub PopCause : AnyValues T → Seat T → Seat T → (turns : ℕ) → Refusal → Type 0
  PopCause q = PopCaused (worn_of q).pop (arena_of q)

  -- why a shut is refused: for a cause of its kind
  abbrev pub ShutCause : AnyValues T → Seat T → Seat T → (turns : ℕ) → Refusal → Type 0
  ShutCause q = ShutCaused (worn_of q).shut (arena_of q)
