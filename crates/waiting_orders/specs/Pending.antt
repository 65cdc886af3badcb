-- When a pending pop goes: only where a push that waits is in the way of a pop that was told a reply.
use Rattle.std.specs.Prelude.{◌≡◌, ◌≤◌, ◌<◌, ℕ, Bool, true, false, ◌&&◌, ◌⊎◌, List, ◌∷◌, Option, None, Some, IsSome, length}
use Rattle.std.specs.List.{AllByRecursion, filter}
use Rattle.std.specs.List.Sorted.{IsPermutation}
use Rattle.history.specs.declared.refusals.Refusal.TheVariants.{Closed}
use Rattle.history.specs.declared.operations.Op.{Op}
use Rattle.history.specs.declared.operations.Op.TheVariants.{Enq, Deq, Shut}
use Rattle.history.specs.declared.operations.Taken.{Taken}
use Rattle.history.specs.declared.operations.Reply.{Reply}
use Rattle.history.specs.declared.operations.Reply.TheVariants.{Done, Value, Empty, Refused}
use Rattle.history.specs.declared.operations.Stamped.{Stamped}
use Rattle.waiting_orders.specs.Waiting.{IsCall, State, Step, IsEnd, CanEnd, Where, OtherIsOpen, PushIsOpen, Pushes, waits, fits, pushes_value}

-- whether an operation with this reply was told nothing
abbrev pub is_untold : Option Reply → Bool
is_untold None = true
is_untold (Some reply) = false

-- whether an operation is a pending pop
abbrev pub is_pending_pop : Op → Option Reply → Bool
is_pending_pop (Enq body) reply = false
is_pending_pop Deq reply = is_untold reply
is_pending_pop Shut reply = false

-- what ended, if it did, ended before a number
abbrev pub EndedBefore : ℕ → Option ℕ → Type 0
EndedBefore number None = ⊥
EndedBefore number (Some last) = last < number

-- the one ended no later than the other one
abbrev pub EndsBy : Option ℕ → Option ℕ → Type 0
EndsBy one None = Unit {0}
EndsBy None (Some other) = ⊥
EndsBy (Some one) (Some other) = one ≤ other

-- no push of a list that waits ended before this one
abbrev pub AreNoSooner : Stamped → List Stamped → Type 0
AreNoSooner p os = AllByRecursion (λ q. Where (waits q) (EndsBy p.last q.last)) os

-- A pending pop takes the value of a push that waits.
pub record Pops (d p : Stamped) (s t : State) : Type 0 where
  pub op : d.op ≡ Deq
  pub reply : d.reply ≡ None
  pub value : Taken
  pub pushes : Pushes value p
  pub is : IsPermutation s.left (d ∷ p ∷ t.left)
  pub since : s.time ≤ t.time
  pub pop_began : d.first ≤ t.time
  pub push_began : p.first ≤ t.time
  pub ongoing : AllByRecursion (OtherIsOpen t.time) s.left
  pub first : AllByRecursion (PushIsOpen p.first) t.left
  pub same : t.shut ≡ s.shut

-- an operation is left in a state
pub record IsLeftIn (o : Stamped) (s : State) : Type 0 where
  pub rest : List Stamped
  pub is : IsPermutation s.left (o ∷ rest)

-- a pending pop takes a value, and another one that is left began no later
pub record CouldGo (d e p : Stamped) (s t : State) : Type 0 where
  pub calls : AllByRecursion IsCall s.left
  pub pops : Pops e p s t
  pub op : d.op ≡ Deq
  pub reply : d.reply ≡ None
  pub there : IsLeftIn d t
  pub sooner : d.first ≤ e.first

-- a pending pop takes a value that a pop that is left was told, and that had begun by then
pub record IsToldInstead (o d p : Stamped) (s t : State) : Type 0 where
  pub calls : AllByRecursion IsCall s.left
  pub pops : Pops d p s t
  pub value : Taken
  pub pushes : Pushes value p
  pub op : o.op ≡ Deq
  pub reply : o.reply ≡ Some (Value value)
  pub there : IsLeftIn o t
  pub began : o.first ≤ t.time

-- a push of a value waits that began by a number, but after another push had ended
pub record WaitsBehind (p : Stamped) (v : Taken) (number : ℕ) (s : State) : Type 0 where
  pub push : Stamped
  pub there : IsLeftIn push s
  pub pushes : Pushes v push
  pub began : push.first ≤ number
  pub behind : EndedBefore push.first p.last

-- A push that waits is in the way of a pop at a number: the value that the pop was told is behind it, or it had ended before
-- that while the pop was told that the queue is empty, or it ended while the pop was told that it is shut and empty.
abbrev pub IsInTheWay : (p : Stamped) → (number : ℕ) → (s : State) → Op → Option Reply → Type 0
IsInTheWay p number s (Enq body) reply = ⊥
IsInTheWay p number s Shut reply = ⊥
IsInTheWay p number s Deq None = ⊥
IsInTheWay p number s Deq (Some Done) = ⊥
IsInTheWay p number s Deq (Some (Value v)) = WaitsBehind p v number s
IsInTheWay p number s Deq (Some Empty) = (s.shut ≡ false) × EndedBefore number p.last
IsInTheWay p number s Deq (Some (Refused refusal)) = (refusal ≡ Closed) × (s.shut ≡ true) × IsSome p.last

-- A push that waits is in the way of a pop that was told a reply, at a number at which that had begun, and no operation that
-- is left, but for pushes that wait, had ended.
pub record Hinders (p : Stamped) (s : State) : Type 0 where
  pub pop : Stamped
  pub there : IsLeftIn pop s
  pub number : ℕ
  pub since : s.time ≤ number
  pub began : pop.first ≤ number
  pub ongoing : AllByRecursion (OtherIsOpen number) s.left
  pub way : IsInTheWay p number s pop.op pop.reply

-- a step of an operation that is no pending pop
pub record StepOfOther (s t : State) : Type 0 where
  pub step : Step s t
  pub other : is_pending_pop step.operation.op step.operation.reply ≡ false

-- a pending pop takes the value of a push that is in the way
pub record MakesWay (p : Stamped) (s t : State) : Type 0 where
  pub pop : Stamped
  pub pops : Pops pop p s t
  pub hinders : Hinders p s

-- a state where all that is left are calls, and of the pushes that wait none ended before this one, which is left
pub record IsFirstToEnd (p : Stamped) (s : State) : Type 0 where
  pub calls : AllByRecursion IsCall s.left
  pub waits : waits p ≡ true
  pub there : IsLeftIn p s
  pub least : AreNoSooner p s.left

-- a state where nothing that was told a reply is left, or that leads to one that ends within so many steps, and no pending pop
-- goes but one that takes the value of a push where that is in the way
abbrev pub EndsLazily : (p : Stamped) → ℕ → State → Type 0
EndsLazily p n s = IsEnd s ⊎ ((t : State) × (StepOfOther s t ⊎ MakesWay p s t) × CanEnd n t)

-- whether a reply is this value
abbrev pub is_value : Taken → Option Reply → Bool
is_value v None = false
is_value v (Some Done) = false
is_value v (Some (Value w)) = pushes_value v w.from (Enq w.body)
is_value v (Some Empty) = false
is_value v (Some (Refused refusal)) = false

-- whether an operation is a waiting push of a value
abbrev pub waits_with : Taken → Stamped → Bool
waits_with v o = waits o && fits v o

-- how many operations were told a value
abbrev pub told_count : Taken → List Stamped → ℕ
told_count v os = length (filter (λ o. is_value v o.reply) os)

-- how many pushes of a value wait
abbrev pub push_count : Taken → List Stamped → ℕ
push_count v os = length (filter (waits_with v) os)
