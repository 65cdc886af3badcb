-- Walks along orders of a recorded history in which a push waits: steps one after another, up to an end.
use Rattle.std.specs.Prelude.{◌≡◌, ◌≤◌, ℕ, zero, suc, ◌⊎◌, List, [], ◌∷◌, Option, None, Some, IfSome, is_some}
use Rattle.std.specs.List.{AllByRecursion}
use Rattle.history.specs.declared.refusals.Refusal.{Refusal}
use Rattle.history.specs.declared.refusals.Refusal.TheVariants.{Closed}
use Rattle.history.specs.declared.operations.Op.TheVariants.{Deq, Shut}
use Rattle.history.specs.declared.operations.Taken.{Taken}
use Rattle.history.specs.declared.operations.Reply.{Reply}
use Rattle.history.specs.declared.operations.Reply.TheVariants.{Done, Value, Empty, Refused}
use Rattle.history.specs.declared.operations.Stamped.{Stamped}
use Rattle.waiting_orders.specs.declared.boards.Board.{Board}
use Rattle.waiting_orders.specs.declared.walks.Went.{Went}
use Rattle.waiting_orders.specs.Waiting.{State, Step, OtherIsOpen, Takes, FindsEmpty, IsLeft, IsTold, IsToldDrained, Shuts, IsEnd}
use Rattle.waiting_orders.specs.Lines.{Out}
use Rattle.waiting_orders.specs.Listed.{takes_value}
use Rattle.waiting_orders.specs.Nodes.{Spot, AreCalls, state_of}
use Rattle.waiting_orders.specs.Reached.{IsOutOf}

-- an operation that was refused for something else than a shut is set aside, at no number of its own
pub record GoesAside (s t : State) : Type 0 where
  pub operation : Stamped
  pub refusal : Refusal
  pub told : operation.reply ≡ Some (Refused refusal)
  pub effect : IsLeft refusal operation s t
  pub since : s.time ≤ t.time

-- one operation goes, or is set aside
abbrev pub Goes : (s t : State) → Type 0
Goes s t = Step s t ⊎ GoesAside s t

-- so many operations go at most, one after another, up to an end
abbrev pub Walks : ℕ → State → Type 0
Walks zero s = IsEnd s
Walks (suc n) s = IsEnd s ⊎ ((t : State) × Goes s t × Walks n t)

-- ---- what goes, and what it does

-- an operation was told nothing, or this reply
abbrev pub MayBeTold : Reply → Stamped → Type 0
MayBeTold reply o = IfSome o.reply (λ told. reply ≡ told)

-- a pop takes the value of a push
pub record DoesTake (o : Stamped) (taken : Option Stamped) (s t : State) : Type 0 where
  pub op : o.op ≡ Deq
  pub value : Taken
  pub told : MayBeTold (Value value) o
  pub effect : Takes value o s t
  pub push : taken ≡ Some effect.push

-- a pop finds the queue empty
pub record DoesEmpty (o : Stamped) (s t : State) : Type 0 where
  pub op : o.op ≡ Deq
  pub told : o.reply ≡ Some Empty
  pub effect : FindsEmpty o s t

-- a shut
pub record DoesShut (o : Stamped) (s t : State) : Type 0 where
  pub op : o.op ≡ Shut
  pub told : MayBeTold Done o
  pub effect : Shuts o s t

-- a push or a shut was told that the queue is shut
pub record DoesTell (o : Stamped) (s t : State) : Type 0 where
  pub other : o.op ≡ Deq → ⊥
  pub told : o.reply ≡ Some (Refused Closed)
  pub effect : IsTold o s t

-- a pop was told that the queue is shut and empty
pub record DoesDrain (o : Stamped) (s t : State) : Type 0 where
  pub op : o.op ≡ Deq
  pub told : o.reply ≡ Some (Refused Closed)
  pub effect : IsToldDrained o s t

-- an operation was refused for something else
pub record DoesLeave (o : Stamped) (s t : State) : Type 0 where
  pub refusal : Refusal
  pub told : o.reply ≡ Some (Refused refusal)
  pub effect : IsLeft refusal o s t

-- an operation goes at a number at which it began, and neither it nor another one that is left had ended
pub record IsTimed (o : Stamped) (s t : State) : Type 0 where
  pub began : o.first ≤ t.time
  pub ongoing : AllByRecursion (OtherIsOpen t.time) s.left

-- an operation goes that takes no value
abbrev pub DoesOther : Stamped → (s t : State) → Type 0
DoesOther o s t = DoesEmpty o s t ⊎ (DoesShut o s t ⊎ (DoesTell o s t ⊎ DoesDrain o s t))

-- an operation goes, with the push whose value it takes, if it takes one; or it is set aside
abbrev pub Does : Stamped → Option Stamped → (s t : State) → Type 0
Does o taken s t =
    (IsTimed o s t × DoesTake o taken s t) ⊎ ((IsTimed o s t × DoesOther o s t × (taken ≡ None)) ⊎ (DoesLeave o s t × (taken ≡ None)))

-- what went does it between two states
pub record Moves (w : Went) (s t : State) : Type 0 where
  pub time : w.time ≡ t.time
  pub since : s.time ≤ t.time
  pub does : Does w.other w.push s t

-- these go one after another from a state to another one
abbrev pub AreWent : List Went → (s t : State) → Type 0
AreWent [] s t = s ≡ t
AreWent (w ∷ ws) s t = (u : State) × Moves w s u × AreWent ws u t

-- the operation of a push that is left, if there is one
abbrev pub operation_of : Option Out → Option Stamped
operation_of None = None
operation_of (Some out) = Some out.operation

-- An operation that is left leads from a state to another one, with the push whose value it takes, if it takes one.
pub record LeadsTo (board : Board) (s u : Spot) : Type 0 where
  pub other : Out
  pub out : IsOutOf board.others.items s.others other
  pub rest : u.others ≡ other.left
  pub push : Option Out
  pub push_out : IfSome push (λ p. IsOutOf board.pushes.items s.pushes p × (u.pushes ≡ p.left))
  pub takes : is_some push ≡ takes_value other.operation.op other.operation.reply
  pub moves : Moves (record { other = other.operation; push = operation_of push; time = u.time }) (state_of board s) (state_of board u)

-- to each of these states an operation leads that goes, or is set aside
abbrev pub AreBehind : Board → Spot → List Spot → Type 0
AreBehind board s new = AreCalls board → AllByRecursion (LeadsTo board s) new

-- the same of a history with these operations
abbrev pub AreBehindOver : (others pushes : List Stamped) → Spot → List Spot → Type 0
AreBehindOver others pushes s new = (board : Board) → others ≡ board.others.items → pushes ≡ board.pushes.items → AreBehind board s new
