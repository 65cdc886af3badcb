-- A queue of values of a picked split as a queue with seats.
use Rattle.std.specs.Prelude.{◌≡◌, List, refl, true}
use denote.Param.{number}
use Rattle.history.specs.Seats.{Permit}
use Rattle.node_arena.specs.Arenas.{Arena}
use Rattle.node_arena.specs.declared.seats.Seat.{Seat}
use Rattle.node_arena.specs.Seats as seats
use Rattle.node_arena.specs.Seats.{IsReady, HasNoSlot, carries_of}
use Rattle.arena_queue.specs.declared.algorithms.Algorithm.{Ghosts}
use Rattle.nonblocking.specs.declared.algorithm.NonBlockingAlgorithm.{NonBlockingAlgorithm}
use Rattle.two_lock.specs.declared.algorithm.TwoLockAlgorithm.{TwoLockAlgorithm}
use Rattle.nonblocking.specs.contracts.algorithm.NonBlockingAlgorithmAlgorithm.TheImpl as ms_algorithm
use Rattle.two_lock.specs.contracts.algorithm.TwoLockAlgorithmAlgorithm.TheImpl as two_algorithm
use Rattle.nonblocking.specs.Worn as ms
use Rattle.two_lock.specs.Worn as two
use Rattle.value_queue.specs.Queues as one_split
use Rattle.picked.specs.Worn.{Worn, worn_by}
use Rattle.picked.specs.declared.values.SplitOf.{SplitOf}
use Rattle.picked.specs.declared.values.SplitOf.TheVariants.{Bits16, Bits20, Bits24, Bits28, Bits32}

module _ {T L : Type 0} {a : Ghosts L 16} {b : Ghosts L 20} {c : Ghosts L 24} {d : Ghosts L 28} {e : Ghosts L 32} where
  -- the arena of a queue
  abbrev pub arena_of : SplitOf T L a b c d e → Arena
  arena_of (Bits16 q) = one_split.arena_of q
  arena_of (Bits20 q) = one_split.arena_of q
  arena_of (Bits24 q) = one_split.arena_of q
  arena_of (Bits28 q) = one_split.arena_of q
  arena_of (Bits32 q) = one_split.arena_of q

  -- which words stop its calls: those that stop its algorithm's
  abbrev pub worn_of : SplitOf T L a b c d e → Worn
  worn_of (Bits16 q) = worn_by a
  worn_of (Bits20 q) = worn_by b
  worn_of (Bits24 q) = worn_by c
  worn_of (Bits28 q) = worn_by d
  worn_of (Bits32 q) = worn_by e

  -- what each seat of a queue may do
  abbrev pub permits_of : SplitOf T L a b c d e → List Permit
  permits_of q = seats.permits_of (arena_of q)

  -- a seat of a queue, in no call, with no slot
  abbrev pub IsQueueSeat : SplitOf T L a b c d e → Seat T → Type 0
  IsQueueSeat q s = IsReady (arena_of q) s × HasNoSlot s

  -- the arena of a queue carries values
  pub carries : (q : SplitOf T L a b c d e) → carries_of (arena_of q) ≡ true
  carries (Bits16 q) = q.carries
  carries (Bits20 q) = q.carries
  carries (Bits24 q) = q.carries
  carries (Bits28 q) = q.carries
  carries (Bits32 q) = q.carries

-- the non-blocking one
abbrev pub ValueQueue : Type 0 → Type 0
ValueQueue T =
    SplitOf T NonBlockingAlgorithm (ms_algorithm.ghosts (number 16)) (ms_algorithm.ghosts (number 20)) (ms_algorithm.ghosts (number 24))
    (ms_algorithm.ghosts (number 28)) (ms_algorithm.ghosts (number 32))

-- the two-lock one
abbrev pub TwoLockValues : Type 0 → Type 0
TwoLockValues T =
    SplitOf T TwoLockAlgorithm (two_algorithm.ghosts (number 16)) (two_algorithm.ghosts (number 20)) (two_algorithm.ghosts (number 24))
    (two_algorithm.ghosts (number 28)) (two_algorithm.ghosts (number 32))

module _ {T : Type 0} where
  -- the words that stop the non-blocking queue's calls, whichever its split
  pub non_blocking_worn : (q : ValueQueue T) → worn_of q ≡ record { push = ms.push_worn; pop = ms.pop_worn; shut = ms.shut_worn }
  non_blocking_worn (Bits16 q) = refl
  non_blocking_worn (Bits20 q) = refl
  non_blocking_worn (Bits24 q) = refl
  non_blocking_worn (Bits28 q) = refl
  non_blocking_worn (Bits32 q) = refl

  -- and those that stop the two-lock queue's
  pub two_lock_worn : (q : TwoLockValues T) → worn_of q ≡ record { push = two.push_worn; pop = two.pop_worn; shut = two.shut_worn }
  two_lock_worn (Bits16 q) = refl
  two_lock_worn (Bits20 q) = refl
  two_lock_worn (Bits24 q) = refl
  two_lock_worn (Bits28 q) = refl
  two_lock_worn (Bits32 q) = refl
