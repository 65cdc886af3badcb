-- What a turn of a push comes to.
use Rattle.std.specs.Prelude.{ℕ, ◌<◌, List, take}
use Rattle.history.specs.declared.refusals.Refusal.{Refusal}
use Rattle.history.specs.Answers.{Pushed, PushRefused, SeesMore}
use Rattle.ring_queue.specs.declared.pushes.PushTurn.{PushTurn}
use Rattle.ring_queue.specs.declared.pushes.PushTurn.TheVariants.{Done, Stopped, Failed}
use Rattle.ring_queue.specs.declared.push_batches.ManyTurn.{ManyTurn}
use Rattle.ring_queue.specs.declared.push_batches.ManyTurn.TheVariants.{Done as DoneMany, Stopped as StoppedMany, Failed as FailedMany}
use Rattle.ring_queue.specs.declared.seats.Seat.{Seat}
use Rattle.ring_queue.specs.Plans.{Layout}
use Rattle.ring_queue.specs.Causes.{PushStops}
use Rattle.ring_queue.specs.Hands.{GivesSlot}
use Rattle.ring_queue.specs.Many.{AreEnough}
use Rattle.ring_queue.specs.Steps.{PushedAll}
use Rattle.ring_queue.specs.Seats.{KeepsSlots, known_of, view}
use Rattle.ring_queue.specs.Turns.{Tried}

-- a push is refused, at a step at which its cause held
pub record IsStopped {T : Type 0} (z : Layout) (s t : Seat T) (refusal : Refusal) : Type 0 where
  pub refused : PushRefused (known_of s) refusal (known_of t)
  pub cause : PushStops z (view t).seen refusal

-- a turn failed: others had claimed places since the seat's last look at Tail
pub record HasLost {T : Type 0} (s t : Seat T) : Type 0 where
  pub sees : SeesMore (known_of s) (known_of t)
  pub more : s.tail < t.tail
  pub tried : Tried s t 1

-- what a turn of a push says
abbrev pub PushSays : {T : Type 0} → Layout → (s t : Seat T) → (body : ℕ) → PushTurn → Type 0
PushSays z s t body Done = Pushed (known_of s) body (known_of t)
PushSays z s t body (Stopped refusal) = IsStopped z s t refusal
PushSays z s t body Failed = HasLost s t

-- what it did with slots
abbrev pub PushMoves : {T : Type 0} → Layout → (s t : Seat T) → (body : ℕ) → PushTurn → Type 0
PushMoves z s t body Done = GivesSlot z body s t
PushMoves z s t body (Stopped refusal) = KeepsSlots s t
PushMoves z s t body Failed = KeepsSlots s t

-- what a turn of a push of many says
abbrev pub ManySays : {T : Type 0} → Layout → (s t : Seat T) → (bodies : List ℕ) → ManyTurn → Type 0
ManySays z s t bodies (DoneMany count) = AreEnough z t bodies count × PushedAll (known_of s) (take count bodies) (known_of t)
ManySays z s t bodies (StoppedMany refusal) = IsStopped z s t refusal
ManySays z s t bodies FailedMany = HasLost s t
