-- What a turn of a pop comes to.
use Rattle.std.specs.Prelude.{◌≡◌, List, ◌++◌, ◌⊎◌, ℕ, ◌+◌, ◌≤◌, nat_eq, if◌then◌else◌}
use Rattle.std.specs.List.{sum_by}
use Rattle.history.specs.declared.operations.Entry.{Entry}
use Rattle.history.specs.Answers.{Popped, FoundEmpty, FoundShutEmpty, SeesMore}
use Rattle.ring_queue.specs.declared.pops.Turn.{Turn}
use Rattle.ring_queue.specs.declared.pops.Turn.TheVariants.{Took, Empty, Closed, Failed}
use Rattle.ring_queue.specs.declared.seats.Seat.{Seat}
use Rattle.ring_queue.specs.Plans.{Layout}
use Rattle.ring_queue.specs.Paths.{Line, C3, P1, P3, Event}
use Rattle.ring_queue.specs.Knowledge.{path_of}
use Rattle.ring_queue.specs.Steps.{WasHeldUp}
use Rattle.ring_queue.specs.Seats.{known_of, view}

-- so many turns failed of a seat that had seen so much and whose head was there: in each Head was raised, or at some step since
-- then a place from there on had been claimed
abbrev pub HaveFailed : {T : Type 0} → Layout → (old : List Entry) → (from turns : ℕ) → Seat T → Type 0
HaveFailed z old from turns t = (from ≤ t.head) × ((from + turns ≤ t.head) ⊎ WasHeldUp z old (view t).seen from)

-- what a turn of a pop says
abbrev pub TurnSays : {T : Type 0} → Layout → (s t : Seat T) → Turn → Type 0
TurnSays z s t (Took value) = Popped (known_of s) value (known_of t)
TurnSays z s t Empty = FoundEmpty (known_of s) (known_of t)
TurnSays z s t Closed = FoundShutEmpty (known_of s) (known_of t)
TurnSays z s t Failed = SeesMore (known_of s) (known_of t) × HaveFailed z (view s).seen s.head 1 t

-- a turn took no value
abbrev pub TookNone : Turn → Type 0
TookNone (Took value) = ⊥
TookNone Empty = Unit {0}
TookNone Closed = Unit {0}
TookNone Failed = Unit {0}

-- whether a turn failed at an access, as a number: others had claimed places; or Head was read, as a place was claimed that isn't
-- filled, or another had raised it
abbrev pub failed_at : Line → (found left : ℕ) → ℕ
failed_at C3 n m = if nat_eq n m then 1 else 0
failed_at P1 n m = 1
failed_at P3 n m = if nat_eq n m then 1 else 0
failed_at l n m = 0

-- how many turns failed on a path
abbrev pub failed_turns : List Event → ℕ
failed_turns es = sum_by (λ e. failed_at e.line e.found e.left) es

-- a seat went on by accesses of which so many were a failed turn's last
pub record Tried {T : Type 0} (s t : Seat T) (count : ℕ) : Type 0 where
  pub accesses : List Event
  pub path : path_of (view t) ≡ path_of (view s) ++ accesses
  pub failed : failed_turns accesses ≡ count

-- so it did in a turn that failed: one
abbrev pub TurnTried : {T : Type 0} → (s t : Seat T) → Turn → Type 0
TurnTried s t (Took value) = Unit {0}
TurnTried s t Empty = Unit {0}
TurnTried s t Closed = Unit {0}
TurnTried s t Failed = Tried s t 1
