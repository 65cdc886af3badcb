-- What a map by place holds while a history is judged.
use Rattle.std.specs.Prelude.{◌≡◌, ℕ, Option, None, List, [], ◌∷◌, ◌++◌, map}
use Rattle.std.specs.BTreeMap.{BTreeMap, values}
use Rattle.std.specs.Borrow.{Bor}
use Rattle.history.specs.declared.operations.Stamped.{Stamped}
use Rattle.history.specs.declared.operations.Cause.{Cause}
use Rattle.history.specs.declared.replays.Replayed.{Replayed}
use Rattle.history.specs.Queue.{Queue}
use Rattle.history.specs.History.{point_or_zero, by_point, fault_of}

-- operations lent by their places
abbrev pub OperationsByPoint : Type 0
OperationsByPoint = BTreeMap ℕ (Bor Stamped)

-- an entry with the operation that it lends
abbrev pub shown : ℕ × Bor Stamped → ℕ × Stamped
shown e = (e.0, e.1.now)

-- an operation with the number of its place
abbrev pub numbered : Stamped → ℕ × Stamped
numbered o = (point_or_zero o.at, o)

-- the operations that a map lends, by rising place
abbrev pub listed : OperationsByPoint → List Stamped
listed places = map (λ o. o.now) (values places)

-- a map has those operations of a list that have a place, each at its place
abbrev pub HoldsThoseWithPoints : OperationsByPoint → List Stamped → Type 0
HoldsThoseWithPoints places ops = map shown places.entries ≡ map numbered (by_point ops)

-- the fault found is that of the operation after those in the map; where it has none, the map has it too
abbrev pub Judges : OperationsByPoint → OperationsByPoint → Stamped → Option Cause → Type 0
Judges old new o cause =
    (before : List Stamped) → HoldsThoseWithPoints old before →
    (cause ≡ fault_of before o) × (cause ≡ None → HoldsThoseWithPoints new (before ++ o ∷ []))

-- the queue that operations were applied to: its values, and whether it is shut
abbrev pub queue_of : Replayed → Queue
queue_of r = record { values = r.values.items; shut = r.shut }
