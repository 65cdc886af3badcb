-- States to which steps lead from the start of a history: at each step an operation goes that is no waiting push, and with it at
-- most one push, or those that a shut leaves out. Whether it may go there by its numbers and its reply is not asked.
use Rattle.std.specs.Prelude.{◌≡◌, ℕ, ◌+◌, ◌*◌, ◌≤◌, max, Bool, true, false, ◌⊎◌, List, [], ◌∷◌, ◌++◌, Some, length, slice_get}
use Rattle.std.specs.List.{AllByRecursion, filter}
use Rattle.std.specs.List.Sorted.{IsPermutation}
use Rattle.history.specs.declared.operations.Stamped.{Stamped}
use Rattle.waiting_orders.specs.Indexed.{indexed}
use Rattle.waiting_orders.specs.Lines.{Left, Out, IsRising, spelled, without_kept, without_later}
use Rattle.waiting_orders.specs.Nodes.{Spot, IsIn, start}
use Rattle.waiting_orders.specs.Waiting.{waits}

-- what is left without the operation at a place, which is one of those kept, or behind them
abbrev pub IsRest : ℕ → (before after : Left) → Type 0
IsRest place before after =
    ((at : ℕ) × (slice_get before.kept at ≡ Some place) × (after ≡ without_kept at before))
    ⊎ ((before.from ≤ place) × (after ≡ without_later place before))

-- one of the operations that are left, and what is left without it
pub record IsOutOf (ops : List Stamped) (left : Left) (out : Out) : Type 0 where
  pub place : ℕ
  pub there : slice_get ops place ≡ Some out.operation
  pub rest : IsRest place left out.left

-- these are each one of the operations that are left
abbrev pub AreOutOf : List Stamped → Left → List Out → Type 0
AreOutOf ops left outs = AllByRecursion (IsOutOf ops left) outs

-- a push is taken
pub record LeavesOne (pushes : List Stamped) (other : Out) (s t : Spot) : Type 0 where
  pub push : Out
  pub out : IsOutOf pushes s.pushes push
  pub rest : t.pushes ≡ push.left
  pub time : t.time ≡ max (max s.time other.operation.first) push.operation.first

-- all pushes stay
pub record LeavesAll (other : Out) (s t : Spot) : Type 0 where
  pub rest : t.pushes ≡ s.pushes
  pub time : (t.time ≡ s.time) ⊎ (t.time ≡ max s.time other.operation.first)

-- pushes that pass a test stay
pub record LeavesSome (pushes : List Stamped) (other : Out) (s t : Spot) : Type 0 where
  pub stays : ℕ → Bool
  pub rest : t.pushes ≡ record { kept = filter stays (spelled (length pushes) s.pushes); from = length pushes }
  pub time : t.time ≡ max s.time other.operation.first

-- a step leads from a state to another one
pub record Leads (others pushes : List Stamped) (s t : Spot) : Type 0 where
  pub other : Out
  pub out : IsOutOf others s.others other
  pub rest : t.others ≡ other.left
  pub pushes_left : LeavesOne pushes other s t ⊎ (LeavesAll other s t ⊎ LeavesSome pushes other s t)
  pub shut : (t.shut ≡ s.shut) ⊎ (t.shut ≡ true)

-- a state is the start, or a step leads to it from one of several
abbrev pub IsReached : (others pushes : List Stamped) → List Spot → Spot → Type 0
IsReached others pushes us t = (t ≡ start) ⊎ ((s : Spot) × IsIn s us × Leads others pushes s t)

-- no state stands in a list twice
abbrev pub AreApart : List Spot → Type 0
AreApart [] = Unit {0}
AreApart (u ∷ us) = (IsIn u us → ⊥) × AreApart us

-- how many bytes a state takes, about: 160, and 8 for each operation that it keeps behind which another one is gone
abbrev pub size : Spot → ℕ
size s = 8 * (length s.others.kept + length s.pushes.kept) + 160

-- how many several states take
abbrev pub sizes : List Spot → ℕ
sizes [] = 0
sizes (s ∷ ss) = size s + sizes ss

-- states that are reached, each listed once, take so many bytes or more
pub record AreTooMany (others pushes : List Stamped) (room : ℕ) : Type 0 where
  pub states : List Spot
  pub apart : AreApart states
  pub reached : AllByRecursion (IsReached others pushes states) states
  pub many : room ≤ sizes states

-- the same of a history, whose operations, each with its place there as its point, are pushes that wait, and others, each by
-- first numbers
pub record TakesRoom (ops : List Stamped) (room : ℕ) : Type 0 where
  pub others : List Stamped
  pub pushes : List Stamped
  pub all : IsPermutation (indexed 0 ops) (others ++ pushes)
  pub none_waits : AllByRecursion (λ o. waits o ≡ false) others
  pub each_waits : AllByRecursion (λ o. waits o ≡ true) pushes
  pub others_rise : IsRising others
  pub pushes_rise : IsRising pushes
  pub many : AreTooMany others pushes room
