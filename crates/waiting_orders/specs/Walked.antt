-- The states that a search made, each behind one that was tried before it.
use Rattle.std.specs.Prelude.{◌≡◌, ◌-◌, ◌⊎◌, List, [], ◌∷◌, ◌++◌, Some, length, slice_get}
use Rattle.std.specs.List.{AllByRecursion}
use Rattle.waiting_orders.specs.declared.boards.Board.{Board}
use Rattle.waiting_orders.specs.declared.nodes.Node.{Node}
use Rattle.waiting_orders.specs.declared.walks.Went.{Went}
use Rattle.waiting_orders.specs.Waiting.{State}
use Rattle.waiting_orders.specs.Nodes.{Spot, AreCalls, IsIn, start, view}
use Rattle.waiting_orders.specs.Orders.{LeadsTo, Moves}

-- what went between two states is put last
abbrev pub GoesLast : (old new : List Went) → (s t : State) → Type 0
GoesLast old new s t = (w : Went) × (new ≡ old ++ w ∷ []) × Moves w s t

-- a state is the start, or an operation leads to it from the one of those that were tried at its parent's place
abbrev pub IsFrom : Board → (done : List Node) → Node → Type 0
IsFrom board done n =
    (view n ≡ start) ⊎ ((p : Node) × (slice_get done n.parent ≡ Some p) × (AreCalls board → LeadsTo board (view p) (view n)))

-- the same of each, from those before it
abbrev pub AreRooted : Board → (seen later : List Node) → Type 0
AreRooted board seen [] = Unit {0}
AreRooted board seen (n ∷ later) = IsFrom board seen n × AreRooted board (seen ++ n ∷ []) later

-- the same of the states that were tried, and of those that wait for it
pub record IsRooted (board : Board) (done ahead : List Node) : Type 0 where
  pub tried : AreRooted board [] done
  pub waiting : AllByRecursion (IsFrom board done) ahead

-- a node stays out, or is put last
abbrev pub AddsNode : (old : List Node) → Node → (new : List Node) → Type 0
AddsNode old n new = (new ≡ old) ⊎ (new ≡ old ++ n ∷ [])

-- states of these are put last, behind the one that was tried last
abbrev pub AddsBehind : (done : List Node) → List Spot → (old new : List Node) → Type 0
AddsBehind done made old new = (added : List Node) × (new ≡ old ++ added) × AllByRecursion (λ n. (n.parent ≡ length done - 1) × IsIn (view n) made) added
