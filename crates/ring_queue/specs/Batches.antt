-- What a pop of many answers, and what its turns come to.
use Rattle.std.specs.Prelude.{◌≡◌, ℕ, zero, suc, ◌≤◌, List, ◌++◌, length, map, take}
use Rattle.std.specs.Global.{Vec}
use Rattle.history.specs.declared.operations.Entry.TheVariants.{Pop}
use Rattle.history.specs.declared.operations.Taken.{Taken}
use Rattle.history.specs.Seats.{Known}
use Rattle.history.specs.Answers.{FoundEmpty, FoundShutEmpty, SeesMore}
use Rattle.ring_queue.specs.declared.batches.Batch.{Batch}
use Rattle.ring_queue.specs.declared.batches.Batch.TheVariants.{Took, Empty, Closed, Failed}
use Rattle.ring_queue.specs.declared.seats.Seat.{Seat}
use Rattle.ring_queue.specs.Plans.{Layout}
use Rattle.ring_queue.specs.Knowledge.{found}
use Rattle.ring_queue.specs.Steps.{AddsAll}
use Rattle.ring_queue.specs.Seats.{known_of, view}
use Rattle.ring_queue.specs.Turns.{HaveFailed, Tried}

-- so many values were popped, no more than a number, one behind another at one step, and went behind what was in a list
pub record PoppedAll (k : Known) (most : ℕ) (before after : List Taken) (k' : Known) (count : ℕ) : Type 0 where
  pub values : List Taken
  pub long : length values ≡ count
  pub some : 1 ≤ count
  pub few : count ≤ most
  pub into : after ≡ before ++ values
  pub adds : AddsAll k (map (λ value. Pop k.number value) values) k'

-- what a pop of many answers: the queue was empty, or so many values were popped
abbrev pub PopsSome : Known → (most : ℕ) → (before after : List Taken) → Known → (count : ℕ) → Type 0
PopsSome k most before after k' zero = (after ≡ before) × FoundEmpty k k'
PopsSome k most before after k' (suc n) = PoppedAll k most before after k' (suc n)

-- what a turn of a pop of many says
abbrev pub BatchSays : {T : Type 0} → Layout → (s t : Seat T) → (most : ℕ) → (before after : Vec Taken) → Batch → Type 0
BatchSays z s t most before after (Took count) = PoppedAll (known_of s) most before.items after.items (known_of t) count
BatchSays z s t most before after Empty = (after ≡ before) × FoundEmpty (known_of s) (known_of t)
BatchSays z s t most before after Closed = (after ≡ before) × FoundShutEmpty (known_of s) (known_of t)
BatchSays z s t most before after Failed = (after ≡ before) × SeesMore (known_of s) (known_of t) × HaveFailed z (view s).seen s.head 1 t

-- one turn failed, by the path, of a turn of a pop of many that did
abbrev pub BatchTried : {T : Type 0} → (s t : Seat T) → Batch → Type 0
BatchTried s t (Took count) = Unit {0}
BatchTried s t Empty = Unit {0}
BatchTried s t Closed = Unit {0}
BatchTried s t Failed = Tried s t 1

-- a pop went on reading words, up to so many
pub record GoesOn {T : Type 0} (s t : Seat T) (words : List ℕ) (limit count : ℕ) : Type 0 where
  pub sees : SeesMore (known_of s) (known_of t)
  pub head : t.head ≡ s.head
  pub found : (view t).stage ≡ found (take count words)
  pub some : 1 ≤ count
  pub few : count ≤ limit
