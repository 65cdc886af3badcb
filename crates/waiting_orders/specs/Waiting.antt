-- Orders of a recorded history in which a push waits: that it had its effect is said when its value is taken, or not at all.
use Rattle.std.specs.Prelude.{◌≡◌, ◌≤◌, ◌↔◌, ℕ, zero, suc, max, nat_le, nat_eq, Bool, true, false, not, ◌&&◌, ◌||◌, ◌⊎◌, List, ◌∷◌, ◌++◌, Option, None, Some, IsSome, IfSome, All, cond}
use Rattle.std.specs.List.{AllByRecursion, Contains, list_all}
use Rattle.std.specs.List.Sorted.{IsPermutation}
use Rattle.history.specs.declared.refusals.Refusal.{Refusal}
use Rattle.history.specs.declared.refusals.Refusal.TheVariants.{Closed}
use Rattle.history.specs.declared.operations.Op.{Op}
use Rattle.history.specs.declared.operations.Op.TheVariants.{Enq, Deq, Shut}
use Rattle.history.specs.declared.operations.Taken.{Taken}
use Rattle.history.specs.declared.operations.Reply.{Reply}
use Rattle.history.specs.declared.operations.Reply.TheVariants.{Done, Value, Empty, Refused}
use Rattle.history.specs.declared.operations.Stamped.{Stamped}
use Rattle.history.specs.History.{leaves}
use Rattle.history.specs.Linearizability.{IsLinearizable}

-- an operation is a call: it ended exactly where it was told a reply, and not before it began
pub record IsCall (o : Stamped) : Type 0 where
  pub ended : IsSome o.last ↔ IsSome o.reply
  pub spans : IfSome o.last (λ last. o.first ≤ last)

-- a recorded history is one of a queue: its operations are calls, and it is linearizable
pub record IsOfQueue (ops : List Stamped) : Type 0 where
  pub calls : All IsCall ops
  pub linearizable : IsLinearizable ops

-- whether a reply is one with which a push may have had its effect: done, or none
abbrev pub may_be_done : Option Reply → Bool
may_be_done None = true
may_be_done (Some Done) = true
may_be_done (Some (Value v)) = false
may_be_done (Some Empty) = false
may_be_done (Some (Refused refusal)) = false

-- whether an operation is a push that may have had its effect
abbrev pub is_push : Op → Option Reply → Bool
is_push (Enq body) reply = may_be_done reply
is_push Deq reply = false
is_push Shut reply = false

-- something that is asked only where a test passes
abbrev pub Where : Bool → Type 0 → Type 0
Where true P = P
Where false P = Unit {0}

-- whether a reply is one that changes nothing: a refusal for something else than a shut, or that the queue is empty
abbrev pub is_quiet : Option Reply → Bool
is_quiet None = false
is_quiet (Some Done) = false
is_quiet (Some (Value v)) = false
is_quiet (Some Empty) = true
is_quiet (Some (Refused refusal)) = leaves refusal

-- whether an operation waits as a push
abbrev pub waits : Stamped → Bool
waits o = is_push o.op o.reply

-- an operation had not ended before a number
abbrev pub IsOpenAt : ℕ → Stamped → Type 0
IsOpenAt time o = IfSome o.last (λ last. time ≤ last)

-- an operation that is no waiting push had not ended before a number
abbrev pub OtherIsOpen : ℕ → Stamped → Type 0
OtherIsOpen time o = Where (not (waits o)) (IsOpenAt time o)

-- a waiting push had not ended before a number
abbrev pub PushIsOpen : ℕ → Stamped → Type 0
PushIsOpen time o = Where (waits o) (IsOpenAt time o)

-- an operation was told nothing
abbrev pub IsUntold : Stamped → Type 0
IsUntold o = o.reply ≡ None

-- an operation that is no waiting push was told nothing
abbrev pub OtherIsUntold : Stamped → Type 0
OtherIsUntold o = Where (not (waits o)) (IsUntold o)

-- How far an order has come: what isn't in it yet, among which are the pushes whose values no pop in it took, whether the
-- queue is shut, and the number at which its last operation had its effect.
pub record State : Type 0 where
  pub left : List Stamped
  pub shut : Bool
  pub time : ℕ

-- whether each of some operations passes a test
abbrev pub every : (Stamped → Bool) → List Stamped → Bool
every test os = list_all test os

-- whether an operation had not ended before a number
abbrev pub is_open_at : ℕ → Option ℕ → Bool
is_open_at time None = true
is_open_at time (Some last) = nat_le time last

-- whether an operation that is no waiting push had not ended before a number
abbrev pub other_is_open : ℕ → Stamped → Bool
other_is_open time o = waits o || is_open_at time o.last

-- the sooner one of two numbers, of which either may be missing
abbrev pub sooner : Option ℕ → Option ℕ → Option ℕ
sooner None b = b
sooner (Some a) None = Some a
sooner (Some a) (Some b) = cond (nat_le a b) (Some a) (Some b)

-- whether a call pushes a value
abbrev pub pushes_value : Taken → ℕ → Op → Bool
pushes_value v actor (Enq body) = nat_eq actor v.from && nat_eq body v.body
pushes_value v actor Deq = false
pushes_value v actor Shut = false

-- whether an operation pushes a value
abbrev pub fits : Taken → Stamped → Bool
fits v p = pushes_value v p.actor p.op

-- whether an operation stays behind a shut: it is no waiting push, or it began before any other that is left ended
abbrev pub may_stay : State → Stamped → Bool
may_stay s p = not (waits p) || every (other_is_open p.first) s.left

-- nothing of a history is in the order
pub record IsStart (ops : List Stamped) (s : State) : Type 0 where
  pub all : IsPermutation ops s.left
  pub unshut : s.shut ≡ false
  pub time : s.time ≡ 0

-- an operation pushes a value
pub record Pushes (v : Taken) (o : Stamped) : Type 0 where
  pub actor : o.actor ≡ v.from
  pub op : o.op ≡ Enq v.body
  pub waits : waits o ≡ true

-- An operation takes the value of a waiting push: the push began by then, and no other one that waits ended before it began.
pub record Takes (v : Taken) (o : Stamped) (s t : State) : Type 0 where
  pub push : Stamped
  pub is : IsPermutation s.left (o ∷ push ∷ t.left)
  pub pushes : Pushes v push
  pub began : push.first ≤ t.time
  pub first : AllByRecursion (PushIsOpen push.first) t.left
  pub same : t.shut ≡ s.shut

-- an operation finds the queue empty: no push that waits ended before
pub record FindsEmpty (o : Stamped) (s t : State) : Type 0 where
  pub is : IsPermutation s.left (o ∷ t.left)
  pub none : AllByRecursion (PushIsOpen t.time) t.left
  pub before : s.shut ≡ false
  pub same : t.shut ≡ s.shut

-- an operation is refused, for something else than a shut
pub record IsLeft (refusal : Refusal) (o : Stamped) (s t : State) : Type 0 where
  pub is : IsPermutation s.left (o ∷ t.left)
  pub leaves : leaves refusal ≡ true
  pub same : t.shut ≡ s.shut

-- a push or a shut is refused by a queue that is shut
pub record IsTold (o : Stamped) (s t : State) : Type 0 where
  pub is : IsPermutation s.left (o ∷ t.left)
  pub before : s.shut ≡ true
  pub same : t.shut ≡ s.shut

-- a pop is refused by a queue that is shut, and empty: pushes that wait were told nothing, and have no effect any more
pub record IsToldDrained (o : Stamped) (s t : State) : Type 0 where
  pub dropped : List Stamped
  pub is : IsPermutation s.left (o ∷ t.left ++ dropped)
  pub untold : AllByRecursion IsUntold dropped
  pub pushes : AllByRecursion (λ p. waits p ≡ true) dropped
  pub none : AllByRecursion (λ p. waits p ≡ false) t.left
  pub before : s.shut ≡ true
  pub same : t.shut ≡ s.shut

-- a shut: pushes that wait began before any other operation that is left ended; those that didn't were told nothing, and
-- have no effect any more
pub record Shuts (o : Stamped) (s t : State) : Type 0 where
  pub dropped : List Stamped
  pub is : IsPermutation s.left (o ∷ t.left ++ dropped)
  pub untold : AllByRecursion IsUntold dropped
  pub kept : AllByRecursion (λ p. may_stay s p ≡ true) t.left
  pub late : AllByRecursion (λ p. may_stay s p ≡ false) dropped
  pub before : s.shut ≡ false
  pub after : t.shut ≡ true

-- what a refused operation does
abbrev pub GetsRefused : Refusal → Op → Stamped → (s t : State) → Type 0
GetsRefused refusal (Enq body) o s t = IsLeft refusal o s t ⊎ ((refusal ≡ Closed) × IsTold o s t)
GetsRefused refusal Shut o s t = IsLeft refusal o s t ⊎ ((refusal ≡ Closed) × IsTold o s t)
GetsRefused refusal Deq o s t = IsLeft refusal o s t ⊎ ((refusal ≡ Closed) × IsToldDrained o s t)

-- what an operation that is no waiting push does
abbrev pub HasEffect : Op → Option Reply → Stamped → (s t : State) → Type 0
HasEffect (Enq body) None o s t = ⊥
HasEffect Deq None o s t = (v : Taken) × Takes v o s t
HasEffect Shut None o s t = Shuts o s t
HasEffect (Enq body) (Some Done) o s t = ⊥
HasEffect Deq (Some Done) o s t = ⊥
HasEffect Shut (Some Done) o s t = Shuts o s t
HasEffect (Enq body) (Some (Value v)) o s t = ⊥
HasEffect Deq (Some (Value v)) o s t = Takes v o s t
HasEffect Shut (Some (Value v)) o s t = ⊥
HasEffect (Enq body) (Some Empty) o s t = ⊥
HasEffect Deq (Some Empty) o s t = FindsEmpty o s t
HasEffect Shut (Some Empty) o s t = ⊥
HasEffect op (Some (Refused refusal)) o s t = GetsRefused refusal op o s t

-- An operation goes next into the order, with its effect at a number at which it and all others that are left had not ended.
pub record Step (s t : State) : Type 0 where
  pub operation : Stamped
  pub since : s.time ≤ t.time
  pub began : operation.first ≤ t.time
  pub ongoing : AllByRecursion (OtherIsOpen t.time) s.left
  pub effect : HasEffect operation.op operation.reply operation s t

-- nothing that was told a reply is left, but for pushes, whose values stay in the queue
abbrev pub IsEnd : State → Type 0
IsEnd s = AllByRecursion OtherIsUntold s.left

-- from here the operations that were told a reply can be placed, within so many steps
abbrev pub CanEnd : ℕ → State → Type 0
CanEnd zero s = IsEnd s
CanEnd (suc n) s = IsEnd s ⊎ ((t : State) × Step s t × CanEnd n t)

-- the same is left in another state, the queue is shut alike, and its number is no later
pub record Same (s t : State) : Type 0 where
  pub left : IsPermutation s.left t.left
  pub shut : t.shut ≡ s.shut
  pub time : t.time ≤ s.time

-- a list has a state with the same left
pub record IsAmong (states : List State) (s : State) : Type 0 where
  pub state : State
  pub there : Contains states state
  pub same : Same s state

-- a state is no end, and each step from it leads to one of a list
pub record IsTried (states : List State) (s : State) : Type 0 where
  pub no_end : IsEnd s → ⊥
  pub steps : (t : State) → Step s t → IsAmong states t

-- a list has a start of a history, and all of it was tried
pub record AreClosed (ops : List Stamped) (states : List State) : Type 0 where
  pub start : State
  pub is_start : IsStart ops start
  pub there : IsAmong states start
  pub tried : All (IsTried states) states

-- One state has what another one has left, but for an operation that changes nothing and is left in the other one alone; all
-- that is left there had not ended before a number, and the one is at no later number than that, or than the other one's.
pub record GoesFirst (number : ℕ) (o : Stamped) (s t : State) : Type 0 where
  pub quiet : is_quiet o.reply ≡ true
  pub other : waits o ≡ false
  pub is : IsPermutation s.left (o ∷ t.left)
  pub calls : AllByRecursion IsCall s.left
  pub ongoing : AllByRecursion (IsOpenAt number) s.left
  pub same : t.shut ≡ s.shut
  pub time : t.time ≤ max s.time number
