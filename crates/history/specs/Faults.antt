-- What each verdict on a history says, in words of its operations.
use Rattle.std.specs.Prelude.{◌≡◌, ℕ, ◌+◌, ◌<◌, ◌⊎◌, List, ◌∷◌, ◌++◌, map, length, IsSome, IsNone, IsSomeAnd}
use Rattle.std.specs.List.{Contains}
use Rattle.history.specs.declared.operations.Stamped.{Stamped}
use Rattle.history.specs.Queue.{empty}
use Rattle.history.specs.History.{Placement, by_point, AgreesWithQueue, IsSequentialRun, queue_after}

-- exactly one of last step and reply is there, or both are and the place isn't
abbrev pub IsMisshapen : Stamped → Type 0
IsMisshapen o =
    (IsSome o.last × IsNone o.reply) ⊎
    ((IsNone o.last × IsSome o.reply) ⊎ (IsSome o.last × IsSome o.reply × IsNone o.at))

-- the last step is before the first one, or the place is before the first step or after the last one
abbrev pub IsOutside : Stamped → Type 0
IsOutside o =
    IsSomeAnd o.last (λ last. last < o.first) ⊎
    (IsSomeAnd o.at (λ at. at < o.first) ⊎ IsSomeAnd o.at (λ at. IsSomeAnd o.last (λ last. last < at)))

-- it has a place, which is that of one of these operations
abbrev pub SharesPlace : List Stamped → Stamped → Type 0
SharesPlace earlier o = IsSome o.at × Contains (map (λ p. p.at) earlier) o.at

-- an operation stands in a list at this place, counted from 1, after these operations
pub record StandsAt (ops : List Stamped) (place : ℕ) (earlier : List Stamped) (o : Stamped) : Type 0 where
  pub later : List Stamped
  pub list : ops ≡ earlier ++ o ∷ later
  pub counted : place ≡ length earlier + 1

-- the first operation with a fault of shape, span or place stands at this place, and has this fault
-- by the operations before it, which are well placed, no two at one place
pub record FirstFaultIs (Fault : List Stamped → Stamped → Type 0) (ops : List Stamped) (place : ℕ) : Type 0 where
  pub earlier : List Stamped
  pub operation : Stamped
  pub stands : StandsAt ops place earlier operation
  pub before : Placement earlier
  pub fault : Fault earlier operation

-- the first fault of a list is that the operation at this place is misshapen
abbrev pub FirstIsMisshapen : List Stamped → ℕ → Type 0
FirstIsMisshapen = FirstFaultIs (λ earlier o. IsMisshapen o)

-- the first fault is that the operation at this place, in shape, ends or is placed outside of its steps
abbrev pub FirstIsOutside : List Stamped → ℕ → Type 0
FirstIsOutside = FirstFaultIs (λ earlier o. ¬ (IsMisshapen o) × IsOutside o)

-- the first fault is that the operation at this place, in shape and within its steps, shares its place
abbrev pub FirstIsShared : List Stamped → ℕ → Type 0
FirstIsShared = FirstFaultIs (λ earlier o. ¬ (IsMisshapen o) × ¬ (IsOutside o) × SharesPlace earlier o)

-- the list is well placed, and by rising place the operation at this place of the list is the first one
-- that was told a reply that the queue doesn't give
pub record FirstIsWrong (ops : List Stamped) (place : ℕ) : Type 0 where
  pub placed : Placement ops
  pub earlier : List Stamped
  pub operation : Stamped
  pub stands : StandsAt ops place earlier operation
  pub sooner : List Stamped
  pub afterwards : List Stamped
  pub order : by_point ops ≡ sooner ++ operation ∷ afterwards
  pub replays : IsSequentialRun empty sooner
  pub wrong : ¬ (AgreesWithQueue (queue_after empty sooner) operation operation.reply)
