-- A queue of either kind, and one of a picked split, as queues with seats.
use Rattle.std.specs.Prelude.{ℕ, List}
use denote.Param.{number}
use Rattle.history.specs.Seats.{Permit}
use Rattle.history.specs.declared.refusals.Refusal.{Refusal}
use Rattle.node_arena.specs.Arenas.{Arena}
use Rattle.node_arena.specs.declared.seats.Seat.{Seat}
use Rattle.node_arena.specs.Seats.{IsReady, permits_of}
use Rattle.arena_queue.specs.declared.algorithms.Algorithm.{Ghosts}
use Rattle.arena_queue.specs.Queues.{arena_of}
use Rattle.arena_queue.specs.Answers.{PushCaused, PopCaused, ShutCaused}
use Rattle.nonblocking.specs.declared.algorithm.NonBlockingAlgorithm.{NonBlockingAlgorithm}
use Rattle.two_lock.specs.declared.algorithm.TwoLockAlgorithm.{TwoLockAlgorithm}
use Rattle.nonblocking.specs.contracts.algorithm.NonBlockingAlgorithmAlgorithm.TheImpl as ms_algorithm
use Rattle.two_lock.specs.contracts.algorithm.TwoLockAlgorithmAlgorithm.TheImpl as two_algorithm
use Rattle.picked.specs.Worn.{Worn, worn_by}
use Rattle.picked.specs.declared.any.AnyQueueOf.{AnyQueueOf}
use Rattle.picked.specs.declared.any.AnyQueueOf.TheVariants.{NonBlocking, TwoLock}
use Rattle.picked.specs.declared.picked.PickedQueue.{PickedQueue}
use Rattle.picked.specs.declared.picked.PickedQueue.TheVariants.{Bits16, Bits20, Bits24, Bits28, Bits32}

-- a queue of either kind, with 24 node bits
abbrev pub AnyQueue : Type 0
AnyQueue = AnyQueueOf 24 (ms_algorithm.ghosts (number 24)) (two_algorithm.ghosts (number 24))

module _ {bits : ℕ} {ms : Ghosts NonBlockingAlgorithm bits} {two : Ghosts TwoLockAlgorithm bits} where
  -- the arena of a queue
  abbrev pub any_arena_of : AnyQueueOf bits ms two → Arena
  any_arena_of (NonBlocking q) = arena_of q
  any_arena_of (TwoLock q) = arena_of q

  -- which words stop its calls: those that stop its kind's
  abbrev pub any_worn_of : AnyQueueOf bits ms two → Worn
  any_worn_of (NonBlocking q) = worn_by ms
  any_worn_of (TwoLock q) = worn_by two

  -- what each seat of a queue may do
  abbrev pub any_permits_of : AnyQueueOf bits ms two → List Permit
  any_permits_of q = permits_of (any_arena_of q)

  -- a seat of a queue, in no call
  abbrev pub IsAnySeat : AnyQueueOf bits ms two → Seat (Unit {0}) → Type 0
  IsAnySeat q s = IsReady (any_arena_of q) s

-- the arena of a queue of a picked split
abbrev pub picked_arena_of : PickedQueue → Arena
picked_arena_of (Bits16 q) = any_arena_of q
picked_arena_of (Bits20 q) = any_arena_of q
picked_arena_of (Bits24 q) = any_arena_of q
picked_arena_of (Bits28 q) = any_arena_of q
picked_arena_of (Bits32 q) = any_arena_of q

-- which words stop its calls: those that stop its kind's
abbrev pub picked_worn_of : PickedQueue → Worn
picked_worn_of (Bits16 q) = any_worn_of q
picked_worn_of (Bits20 q) = any_worn_of q
picked_worn_of (Bits24 q) = any_worn_of q
picked_worn_of (Bits28 q) = any_worn_of q
picked_worn_of (Bits32 q) = any_worn_of q

-- what each seat of a queue may do
abbrev pub picked_permits_of : PickedQueue → List Permit
picked_permits_of q = permits_of (picked_arena_of q)

-- a seat of a queue, in no call
abbrev pub IsPickedSeat : PickedQueue → Seat (Unit {0}) → Type 0
IsPickedSeat q s = IsReady (picked_arena_of q) s

-- why a push is refused: for a cause of its kind
abbrev pub PickedPushRefused : PickedQueue → Seat (Unit {0}) → Seat (Unit {0}) → (turns : ℕ) → Refusal → Type 0
PickedPushRefused q = PushCaused (picked_worn_of q).push (picked_arena_of q)

-- why a pop is refused: for a cause of its kind
abbrev pub PickedPopRefused : PickedQueue → Seat (Unit {0}) → Seat (Unit {0}) → (turns : ℕ) → Refusal → Type 0
PickedPopRefused q = PopCaused (picked_worn_of q).pop (picked_arena_of q)

-- why a shut is refused: for a cause of its kind
abbrev pub PickedShutRefused : PickedQueue → Seat (Unit {0}) → Seat (Unit {0}) → (turns : ℕ) → Refusal → Type 0
PickedShutRefused q = ShutCaused (picked_worn_of q).shut (picked_arena_of q)
