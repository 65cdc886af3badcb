-- The queues of three words whose calls may wait, of each kind, and their seats.
use Rattle.std.specs.Prelude.{◌≡◌, ℕ, List, length, map, Option, IsSomeAnd}
use Rattle.history.specs.Seats.{Permit}
use Rattle.carriers.specs.declared.queues.Carrier.{Ghosts}
use Rattle.carriers.specs.declared.rests.RestOf.{RestOf}
use Rattle.carriers.specs.Knowledge.{KnownOf}
use Rattle.node_arena.specs.declared.ended.Ended.{Ended}
use Rattle.node_arena.specs.declared.seats.Seat.{Seat}
use Rattle.value_queue.specs.Ends.{LeavesValues}
use Rattle.value_queue.specs.Queues.{AreNewOf}
use Rattle.value_queue.specs.ValuesSeen as arena
use Rattle.ring_queue.specs.declared.seats.Seat.{Seat as RingSeat}
use Rattle.ring_queue.specs.Causes.{PopCaused, ShutCaused}
use Rattle.ring_values.specs.declared.queue.RingValues.{RingValues}
use Rattle.ring_values.specs.Looks.{WasSoLongOf}
use Rattle.ring_values.specs.Pushes.{PushCaused}
use Rattle.ring_values.specs.Queues as ring
use Rattle.ring_values.specs.ValuesSeen as ring_seen
use Rattle.picked.specs.declared.either.EitherQueue.{EitherQueue}
use Rattle.picked.specs.declared.either.EitherQueue.TheVariants as queue
use Rattle.picked.specs.declared.either.EitherSeat.{EitherSeat}
use Rattle.picked.specs.declared.either.EitherSeat.TheVariants as seat
use Rattle.picked.specs.declared.either_seats.EitherEnd.{EitherEnd}
use Rattle.picked.specs.declared.kind_values.AnyValues.{AnyValues}
use Rattle.picked.specs.AnyValues as any
use Rattle.picked.specs.Either.{IsEitherSeat, EitherCause, either_permits, either_known}
use Rattle.picked.specs.EitherEnds.{EitherEnds}
use Rattle.msq_c.specs.declared.bounds.MsqLen.{MsqLen}
use Rattle.msq_c.specs.declared.words.MsqWords.{MsqWords}
use Rattle.msq_c.specs.WordLooks.{TellsLen}

-- a queue of three words of any kind: of nodes, or a ring
abbrev pub WordsQueue : Type 0
WordsQueue = EitherQueue (AnyValues MsqWords) (RingValues MsqWords)

-- a seat of one
abbrev pub WordsSeat : Type 0
WordsSeat = EitherSeat (Seat MsqWords) (RingSeat MsqWords)

-- what an end of one gives beside the rest
abbrev pub WordsEnd : Type 0
WordsEnd = EitherEnd (Ended MsqWords) (Unit {0})

-- a seat is one of a queue's, in no call
abbrev pub IsSeat : WordsQueue → WordsSeat → Type 0
IsSeat q s = IsEitherSeat any.IsQueueSeat ring.IsQueueSeat q s

-- what a seat knows
abbrev pub known_of : WordsSeat → KnownOf MsqWords
known_of s = either_known arena.known_by ring_seen.known_by s

-- what each seat of a queue may do
abbrev pub permits_of : WordsQueue → List Permit
permits_of q = either_permits any.permits_of ring.permits_of q

-- what a queue of three words of any kind names
abbrev pub words : Ghosts WordsQueue MsqWords WordsSeat
words = record {
  is_seat = λ q s. IsSeat q s;
  permits = λ q. permits_of q;
  known = λ s. known_of s;
  push_cause = λ q s t turns refusal. EitherCause any.PushCause (λ r. PushCaused (ring.ring_of r)) q s t turns refusal;
  pop_cause = λ q s t turns refusal. EitherCause any.PopCause (λ r. PopCaused (ring.plan_of r)) q s t turns refusal;
  shut_cause = λ q s t turns refusal. EitherCause any.ShutCause (λ r s t turns refusal. ShutCaused s t refusal) q s t turns refusal;
}

-- this is the end of a queue, and it leaves this rest
abbrev pub EndsWith : WordsQueue → WordsEnd → RestOf MsqWords → Type 0
EndsWith q end rest = EitherEnds (λ p. LeavesValues (any.arena_of p)) (λ r e x. Unit {0}) q end rest

-- so many seats are enough for an end of a queue: any of one of nodes, and all of a ring
abbrev pub IsEnough : WordsQueue → (count : ℕ) → Type 0
IsEnough (queue.First q) count = Unit {0}
IsEnough (queue.Second q) count = count ≡ length (ring.permits_of q)

-- these are all the seats of a new queue, and none has made a call
abbrev pub AreUnused : WordsQueue → List WordsSeat → Type 0
AreUnused q seats = AreNewOf (permits_of q) (map known_of seats)

-- a queue tells its length: one of nodes as a queue of words does, and a ring always
abbrev pub TellsLength : WordsQueue → WordsSeat → Option MsqLen → WordsSeat → Type 0
TellsLength (queue.First q) (seat.First s) told (seat.First t) = TellsLen q s told t
TellsLength (queue.Second q) (seat.Second s) told (seat.Second t) = IsSomeAnd told (λ len. WasSoLongOf s t (record { least = len.least; most = len.most }))
TellsLength q s told t = ⊥
