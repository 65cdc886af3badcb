-- What the lines that read answer.
use Rattle.std.specs.Prelude.{◌≡◌, ℕ, ◌+◌, ◌<◌, ◌≤◌, Bool, true, false, List, [], ◌∷◌, ◌++◌, Option, Some, None}
use Rattle.history.specs.Answers.{FoundEmpty, FoundShut, FoundShutEmpty, SeesMore}
use Rattle.ring_queue.specs.declared.looks.TailLook.{TailLook}
use Rattle.ring_queue.specs.declared.looks.TailLook.TheVariants.{Shut, Worn, Open}
use Rattle.ring_queue.specs.declared.looks.EndLook.{EndLook}
use Rattle.ring_queue.specs.declared.looks.EndLook.TheVariants.{Empty, Closed, Ahead}
use Rattle.ring_queue.specs.declared.seats.Seat.{Seat}
use Rattle.ring_queue.specs.Plans.{Layout}
use Rattle.ring_queue.specs.Knowledge.{Stage, rests, found, head_due}
use Rattle.ring_queue.specs.Steps.{IsFull, IsWorn, IsAhead}
use Rattle.ring_queue.specs.Seats.{known_of, view}
use Rattle.ring_queue.specs.Turns.{Tried}

-- what a look at Tail says
abbrev pub TailSays : {T : Type 0} → Layout → (s t : Seat T) → TailLook → Type 0
TailSays z s t Shut = FoundShut (known_of s) (known_of t)
TailSays z s t Worn = SeesMore (known_of s) (known_of t) × IsWorn z (view t).seen
TailSays z s t Open = SeesMore (known_of s) (known_of t) × (t.tail < z.limit) × ((view t).stage ≡ rests)

-- what a look at Head says to a push: the queue is full, or by its head and its tail there is room
abbrev pub HeadSays : {T : Type 0} → Layout → (s t : Seat T) → (full : Bool) → Type 0
HeadSays z s t true = SeesMore (known_of s) (known_of t) × IsFull z (view t).seen
HeadSays z s t false = SeesMore (known_of s) (known_of t) × (t.tail < t.head + z.most)

-- what a look at Tail says to a pop that found its place not filled
abbrev pub EndSays : {T : Type 0} → Layout → (s t : Seat T) → EndLook → Type 0
EndSays z s t Empty = FoundEmpty (known_of s) (known_of t)
EndSays z s t Closed = FoundShutEmpty (known_of s) (known_of t)
EndSays z s t Ahead = SeesMore (known_of s) (known_of t) × IsAhead z (view t).seen s.head × (t.head ≡ s.head) × ((view t).stage ≡ head_due)

-- what the place behind those whose words a pop has found says: its word is found too, or nothing more is
abbrev pub NextSays : (words : List ℕ) → Stage → Option ℕ → Type 0
NextSays words st None = st ≡ found words
NextSays words st (Some word) = st ≡ found (words ++ word ∷ [])

-- by its head and its tail a seat has room for a place, and one is left up to the limit
abbrev pub SeesRoom : {T : Type 0} → Layout → Seat T → Type 0
SeesRoom z t = (t.tail < t.head + z.most) × (t.tail < z.limit)

-- a seat saw more, by which it has room, and its tail isn't lower
pub record FoundRoom {T : Type 0} (z : Layout) (s t : Seat T) : Type 0 where
  pub sees : SeesMore (known_of s) (known_of t)
  pub room : SeesRoom z t
  pub more : s.tail ≤ t.tail
  pub tried : Tried s t 0
