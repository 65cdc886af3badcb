-- A history whose operations have their places in it as their points, and orders of these places.
use Rattle.std.specs.Prelude.{◌≡◌, ◌≢◌, ◌⊎◌, ◌<◌, ℕ, suc, List, [], ◌∷◌, Option, None, Some, All, AllPairs, length, map, slice_get}
use Rattle.std.specs.List.{Contains}
use Rattle.history.specs.declared.operations.Stamped.{Stamped}
use Rattle.history.specs.History.{point_or_zero, IsSequentialRun}
use Rattle.history.specs.Linearizability.{IsPending, KeepsTime}
use Rattle.history.specs.Queue.{empty}

-- each operation with its place as its point, from one on
abbrev pub indexed : ℕ → List Stamped → List Stamped
indexed k [] = []
indexed k (o ∷ os) = record o { at = Some k } ∷ indexed (suc k) os

-- the places of such operations
abbrev pub places_of : List Stamped → List ℕ
places_of os = map (λ o. point_or_zero o.at) os

-- operations with one before them, where there is one
abbrev pub with_found : Option Stamped → List Stamped → List Stamped
with_found None ops = ops
with_found (Some o) ops = o ∷ ops

-- the operations of a list at these indices
abbrev pub picked : List Stamped → List ℕ → List Stamped
picked ops [] = []
picked ops (index ∷ indices) = with_found (slice_get ops index) (picked ops indices)

-- By this order of operations a history is one of a queue: each operation is in it once, but for pending ones left out, an
-- operation that ended before another began comes first, and the queue gives each reply.
pub record IsOrder (ops : List Stamped) (order : List ℕ) : Type 0 where
  pub there : All (λ index. index < length ops) order
  pub once : AllPairs (λ i j. i ≢ j) order
  pub only_pending_left_out : (index : ℕ) (o : Stamped) → slice_get ops index ≡ Some o → Contains order index ⊎ IsPending o
  pub timely : KeepsTime (picked ops order)
  pub runs : IsSequentialRun empty (picked ops order)
