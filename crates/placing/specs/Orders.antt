-- Points for the orders in which a recorded history is one of a queue.
use Rattle.std.specs.Prelude.{◌≡◌, ℕ, ◌+◌, ◌≤◌, max, List, [], ◌∷◌, Option, None, Some, IfSome, length, replicate, slice_get, slice_set}
use Rattle.history.specs.declared.operations.Stamped.{Stamped}
use Rattle.placing.specs.SpreadStamps.{IsFirstOf}
pub use Rattle.waiting_orders.specs.Indexed.{with_found, picked, IsOrder}

-- no operation of an order ended before a number, before it began, or before one began that comes before it
abbrev pub NoneEndsTooSoon : List Stamped → (begun : ℕ) → List ℕ → Type 0
NoneEndsTooSoon ops begun [] = Unit {0}
NoneEndsTooSoon ops begun (index ∷ order) =
    (o : Stamped) × (slice_get ops index ≡ Some o) × IfSome o.last (λ last. max o.first begun ≤ last)
    × NoneEndsTooSoon ops (max o.first begun) order

-- a number that is as many behind the first that another one becomes
pub record IsBehindFirst (numbers : List ℕ) (width number behind at : ℕ) : Type 0 where
  pub first : ℕ
  pub is_first : IsFirstOf numbers width number first
  pub is : at ≡ first + behind

-- The points of the operations of an order are put into a list: each as many numbers behind the first that the greatest
-- first step up to it becomes as operations come before it.
abbrev pub PutsPoints : List Stamped → (numbers : List ℕ) → (width begun before : ℕ) → (order : List ℕ) → (old new : List (Option ℕ)) → Type 0
PutsPoints ops numbers width begun before [] old new = new ≡ old
PutsPoints ops numbers width begun before (index ∷ order) old new =
    (o : Stamped) × (slice_get ops index ≡ Some o) × (at : ℕ) × IsBehindFirst numbers width (max o.first begun) before at
    × PutsPoints ops numbers width (max o.first begun) (before + 1) order (slice_set old index (Some at)) new

-- the points of an order's operations, for each operation of a history: none where it isn't in the order
abbrev pub ArePoints : List Stamped → (numbers : List ℕ) → (width : ℕ) → (order : List ℕ) → (points : List (Option ℕ)) → Type 0
ArePoints ops numbers width order points = PutsPoints ops numbers width 0 0 order (replicate (length ops) None) points
