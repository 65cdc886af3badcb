-- Linearizable histories, as Herlihy and Wing define them where no actor's operations overlap: no place is read.
use Rattle.std.specs.Prelude.{◌≡◌, ◌<◌, ◌≤◌, ◌⊎◌, List, [], ◌∷◌, ◌++◌, map, None, Some, IfSome, IsSomeAnd, AllPairs}
use Rattle.std.specs.List.{AllByRecursion}
use Rattle.std.specs.List.Sorted.{IsPermutation}
use Rattle.history.specs.declared.operations.Reply.{Reply}
use Rattle.history.specs.declared.operations.Stamped.{Stamped}
use Rattle.history.specs.Queue.{Queue, empty}
use Rattle.history.specs.History.{answer, AgreesWithQueue}

-- an operation of an order, and the reply that it is given there
pub record Answered : Type 0 where
  pub operation : Stamped
  pub reply : Reply

-- the operations of an order
abbrev pub operations_of : List Answered → List Stamped
operations_of order = map (λ a. a.operation) order

-- an operation has neither ended nor a recorded reply
pub record IsPending (o : Stamped) : Type 0 where
  pub not_ended : o.last ≡ None
  pub not_told : o.reply ≡ None

-- an operation whose reply was recorded is given that one
abbrev pub GivesRecordedReply : Answered → Type 0
GivesRecordedReply a = IfSome a.operation.reply (λ told. a.reply ≡ told)

-- one operation may come before another: the other had not ended when the one began
abbrev pub MayComeBefore : Stamped → Stamped → Type 0
MayComeBefore o p = IfSome p.last (λ last. o.first ≤ last)

-- an operation that ended before another began comes first
abbrev pub KeepsTime : List Stamped → Type 0
KeepsTime [] = Unit {0}
KeepsTime (o ∷ os) = AllByRecursion (MayComeBefore o) os × KeepsTime os

-- from this queue, the operations run one after another, and each is given its reply
abbrev pub IsRun : Queue → List Answered → Type 0
IsRun queue [] = Unit {0}
IsRun queue (a ∷ rest) =
    AgreesWithQueue queue a.operation (Some a.reply) × IsRun (answer queue a.operation (Some a.reply)).after rest

-- A history is linearizable: there is an order of all its completed operations and some pending ones, each once, with a
-- reply for each pending one, that keeps time and is a run of the queue that gives every reply recorded.
pub record IsLinearizable (ops : List Stamped) : Type 0 where
  pub order : List Answered
  pub left_out : List Stamped
  pub each_once : IsPermutation ops (operations_of order ++ left_out)
  pub only_pending_left_out : AllByRecursion IsPending left_out
  pub replies : AllByRecursion GivesRecordedReply order
  pub timely : KeepsTime (operations_of order)
  pub runs : IsRun empty order

-- two operations are the same but for their places
pub record DifferInPlace (o p : Stamped) : Type 0 where
  pub actor : p.actor ≡ o.actor
  pub op : p.op ≡ o.op
  pub first : p.first ≡ o.first
  pub last : p.last ≡ o.last
  pub reply : p.reply ≡ o.reply

-- an operation ended before another began
abbrev pub EndsBefore : Stamped → Stamped → Type 0
EndsBefore o p = IsSomeAnd o.last (λ last. last < p.first)

-- No actor's operations overlap: of any two of one actor, one ended before the other began. Herlihy and Wing ask it of
-- each history; whether one is linearizable is asked here without it.
abbrev pub IsOneAtATime : List Stamped → Type 0
IsOneAtATime ops = AllPairs (λ o p. o.actor ≡ p.actor → EndsBefore o p ⊎ EndsBefore p o) ops

-- each actor's operations stand in a list in the order in which it made them: each ended before the next began
abbrev pub KeepsOwnOrders : List Stamped → Type 0
KeepsOwnOrders ops = AllPairs (λ o p. o.actor ≡ p.actor → EndsBefore o p) ops
