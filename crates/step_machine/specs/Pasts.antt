-- A world and one that moves led to from it: what the one's history says of the other's.
use Rattle.std.specs.Prelude.{◌≡◌, ℕ, ◌<◌, ◌≤◌, List, Some, None, IsSome, IfSome, slice_get}
use Rattle.history.specs.Linearizability.{EndsBefore}
use Rattle.step_machine.specs.Below.{Stamped}
use Rattle.step_machine.specs.Machine.{World, AnyMove, run, IsReached}

-- an operation later: who made it, what it is and its first number stay; one that has ended stays as it is, and one that hadn't
-- ends, if at all, after all numbers that were given
pub record GoesOn (now : ℕ) (o p : Stamped) : Type 0 where
  pub actor : p.actor ≡ o.actor
  pub op : p.op ≡ o.op
  pub first : p.first ≡ o.first
  pub ended : IsSome o.last → p ≡ o
  pub pending : o.last ≡ None → IfSome p.last (λ last. now < last)

-- a world is a past of another one: the operations go on, and a new one begins after all numbers that were given
pub record IsPast (w v : World) : Type 0 where
  pub steps : w.steps ≤ v.steps
  pub stays : (i : ℕ) (o : Stamped) → slice_get w.operations i ≡ Some o → (p : Stamped) × (slice_get v.operations i ≡ Some p) × GoesOn w.steps o p
  pub begins : (i : ℕ) (p : Stamped) → slice_get w.operations i ≡ None → slice_get v.operations i ≡ Some p → w.steps < p.first

-- what had ended in a world stands in a later one as it was, and ended there before each operation whose first number is later
-- than all numbers of the world
abbrev pub KeepsItsOrder : World → World → Type 0
KeepsItsOrder w v =
    (i j : ℕ) (o p : Stamped) → slice_get w.operations i ≡ Some o → IsSome o.last → slice_get v.operations j ≡ Some p → w.steps < p.first
    → (slice_get v.operations i ≡ Some o) × EndsBefore o p

-- a world is a past of another, and its order is kept there
pub record IsBefore (w v : World) : Type 0 where
  pub past : IsPast w v
  pub order : KeepsItsOrder w v

-- of a world that is reached, and each that any moves lead to from there
abbrev pub MovesOnlyAdd : Type 0
MovesOnlyAdd = (moves : List AnyMove) (w v : World) → IsReached w → run moves w ≡ Some v → IsBefore w v
