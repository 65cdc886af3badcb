-- Histories: where each operation is placed, whether a queue gives the replies, and the verdict.
use Rattle.std.specs.Prelude.{◌≡◌, ◌≢◌, ℕ, ◌+◌, ◌≤◌, ◌↔◌, ◌⊎◌, Bool, true, false, not, ◌&&◌, ◌||◌, List, [], ◌∷◌, Option, Some, None, IsSome, IfSome, is_some, nat_le, nat_eq, if◌then◌else◌}
use Rattle.std.specs.List.{AllByRecursion}
use Rattle.history.specs.declared.refusals.Refusal.{Refusal}
use Rattle.history.specs.declared.refusals.Refusal.TheVariants.{NoNode, WornOut, Busy, Closed}
use Rattle.history.specs.declared.operations.Reply.{Reply}
use Rattle.history.specs.declared.operations.Reply.TheVariants.{Done, Value, Empty, Refused}
use Rattle.history.specs.declared.operations.Stamped.{Stamped}
use Rattle.history.specs.declared.operations.Verdict.{Verdict}
use Rattle.history.specs.declared.operations.Verdict.TheVariants.{Yes, No}
use Rattle.history.specs.declared.operations.Cause.{Cause}
use Rattle.history.specs.declared.operations.Cause.TheVariants.{Shape, Span, Shared, Reply as OfReply}
use Rattle.history.specs.Queue.{Queue, empty, Answer, response}

-- An operation has a last step exactly where it has a reply; a completed one has a place; the place lies within it.
-- This speaks of the first step, the last one, the place and the reply.
pub record LiesIn (first : ℕ) (last at : Option ℕ) (reply : Option Reply) : Type 0 where
  pub ended : IsSome last ↔ IsSome reply
  pub placed : IsSome reply → IsSome at
  pub not_before : IfSome at (λ at. first ≤ at)
  pub not_after : IfSome at (λ at. IfSome last (λ last. at ≤ last))

-- an operation is well placed
abbrev pub IsPlaced : Stamped → Type 0
IsPlaced o = LiesIn o.first o.last o.at o.reply

-- no two operations have the same place
abbrev pub AreApart : List Stamped → Type 0
AreApart [] = Unit {0}
AreApart (o ∷ os) = IfSome o.at (λ at. AllByRecursion (λ p. p.at ≢ Some at) os) × AreApart os

-- each operation of a history is well placed, and no two share a place
pub record Placement (ops : List Stamped) : Type 0 where
  pub each : AllByRecursion IsPlaced ops
  pub apart : AreApart ops

-- the number of a place
abbrev pub point_or_zero : Option ℕ → ℕ
point_or_zero None = 0
point_or_zero (Some at) = at

-- a list by rising place with one more operation, before those of its own place
abbrev pub inserted : Stamped → List Stamped → List Stamped
inserted o [] = o ∷ []
inserted o (p ∷ ps) = if nat_le (point_or_zero o.at) (point_or_zero p.at) then o ∷ p ∷ ps else p ∷ inserted o ps

-- the operations that have a place, by rising place, equal ones in the order of the list
abbrev pub by_point : List Stamped → List Stamped
by_point [] = []
by_point (o ∷ os) = if is_some o.at then inserted o (by_point os) else by_point os

-- whether a refusal is one that a queue may answer, and that leaves it as it is
abbrev pub leaves : Refusal → Bool
leaves NoNode = true
leaves (WornOut word) = true
leaves Busy = true
leaves _ = false

-- whether a refusal is that the queue is shut
abbrev pub is_closed : Refusal → Bool
is_closed Closed = true
is_closed _ = false

-- whether a refusal is one that a queue may answer
abbrev pub may_refuse : Refusal → Bool
may_refuse refusal = leaves refusal || is_closed refusal

-- the answer to an operation by what it was told: a refusal leaves the queue, any other reply and none take what the queue gives
abbrev pub answer : Queue → Stamped → Option Reply → Answer
answer queue o (Some (Refused refusal)) = record { reply = Refused refusal; after = queue }
answer queue o (Some Done) = response o.actor o.op queue
answer queue o (Some (Value v)) = response o.actor o.op queue
answer queue o (Some Empty) = response o.actor o.op queue
answer queue o None = response o.actor o.op queue

-- the queue gives the reply that an operation was told: it may refuse by what it doesn't have, and refuses itself where it is
-- shut; a pending one was told nothing
abbrev pub AgreesWithQueue : Queue → Stamped → Option Reply → Type 0
AgreesWithQueue queue o (Some (Refused refusal)) = (leaves refusal ≡ true) ⊎ ((refusal ≡ Closed) × (Refused Closed ≡ (response o.actor o.op queue).reply))
AgreesWithQueue queue o (Some Done) = Done ≡ (response o.actor o.op queue).reply
AgreesWithQueue queue o (Some (Value v)) = Value v ≡ (response o.actor o.op queue).reply
AgreesWithQueue queue o (Some Empty) = Empty ≡ (response o.actor o.op queue).reply
AgreesWithQueue queue o None = Unit {0}

-- from this queue, operations in this order get the replies that they were told
abbrev pub IsSequentialRun : Queue → List Stamped → Type 0
IsSequentialRun queue [] = Unit {0}
IsSequentialRun queue (o ∷ os) = AgreesWithQueue queue o o.reply × IsSequentialRun (answer queue o o.reply).after os

-- the queue after these operations, in this order
abbrev pub queue_after : Queue → List Stamped → Queue
queue_after queue [] = queue
queue_after queue (o ∷ os) = queue_after (answer queue o o.reply).after os

-- by rising place, from the empty queue, the operations get the replies that they were told
abbrev pub IsLegal : List Stamped → Type 0
IsLegal ops = IsSequentialRun empty (by_point ops)

-- whether last step, place and reply go together
abbrev pub is_shaped : Option ℕ → Option ℕ → Option Reply → Bool
is_shaped None at None = true
is_shaped (Some last) (Some at) (Some reply) = true
is_shaped (Some last) None (Some reply) = false
is_shaped (Some last) at None = false
is_shaped None at (Some reply) = false

-- whether the last step isn't before the first one, and the place lies between them
abbrev pub lies_within : ℕ → Option ℕ → Option ℕ → Bool
lies_within first None None = true
lies_within first (Some last) None = nat_le first last
lies_within first None (Some at) = nat_le first at
lies_within first (Some last) (Some at) = nat_le first last && nat_le first at && nat_le at last

-- whether two places are there and are the same
abbrev pub same_point : Option ℕ → Option ℕ → Bool
same_point None b = false
same_point (Some a) None = false
same_point (Some a) (Some b) = nat_eq a b

-- whether an operation's place is that of one in a list
abbrev pub is_shared : Stamped → List Stamped → Bool
is_shared o [] = false
is_shared o (p ∷ ps) = same_point o.at p.at || is_shared o ps

-- the fault of an operation, by itself and by the operations before it
abbrev pub fault_of : List Stamped → Stamped → Option Cause
fault_of earlier o =
    if not (is_shaped o.last o.at o.reply) then Some Shape
    else if not (lies_within o.first o.last o.at) then Some Span
    else if is_shared o earlier then Some Shared
    else None

-- the verdict of a fault at a place of the list, or else what is found later
abbrev pub fault_or : Option Cause → ℕ → Option Verdict → Option Verdict
fault_or (Some cause) place later = Some (No place cause)
fault_or None place later = later

-- the first fault of a list; places count from 1, and `earlier` are the operations before, the nearest first
abbrev pub first_fault : ℕ → List Stamped → List Stamped → Option Verdict
first_fault place earlier [] = None
first_fault place earlier (o ∷ os) = fault_or (fault_of earlier o) place (first_fault (place + 1) (o ∷ earlier) os)

-- whether a reply is that the queue is shut
abbrev pub refuses : Reply → Bool
refuses (Refused refusal) = is_closed refusal
refuses _ = false

-- whether two replies are the same
abbrev pub same_reply : Reply → Reply → Bool
same_reply Done Done = true
same_reply Empty Empty = true
same_reply (Value v) (Value w) = nat_eq v.from w.from && nat_eq v.body w.body
same_reply Done (Value w) = false
same_reply Done Empty = false
same_reply Empty Done = false
same_reply Empty (Value w) = false
same_reply (Value v) Done = false
same_reply (Value v) Empty = false
same_reply (Refused refusal) response = false
same_reply told (Refused refusal) = false

-- whether the queue gives the reply that an operation was told
abbrev pub agrees_with_queue : Queue → Stamped → Option Reply → Bool
agrees_with_queue queue o (Some (Refused refusal)) = leaves refusal || is_closed refusal && refuses (response o.actor o.op queue).reply
agrees_with_queue queue o (Some Done) = same_reply Done (response o.actor o.op queue).reply
agrees_with_queue queue o (Some (Value v)) = same_reply (Value v) (response o.actor o.op queue).reply
agrees_with_queue queue o (Some Empty) = same_reply Empty (response o.actor o.op queue).reply
agrees_with_queue queue o None = true

-- the first operation whose reply the queue does not give
abbrev pub first_wrong : Queue → List Stamped → Option Stamped
first_wrong queue [] = None
first_wrong queue (o ∷ os) =
    if agrees_with_queue queue o o.reply then first_wrong (answer queue o o.reply).after os else Some o

-- where in a list the first operation of a place stands, counted from a number on
abbrev pub index_by_point : Option ℕ → ℕ → List Stamped → ℕ
index_by_point at place [] = place
index_by_point at place (o ∷ os) = if same_point at o.at then place else index_by_point at (place + 1) os

-- the verdict by the operation whose reply is wrong
abbrev pub wrong_reply : List Stamped → Option Stamped → Verdict
wrong_reply ops None = Yes
wrong_reply ops (Some o) = No (index_by_point o.at 1 ops) OfReply

-- the verdict by the first fault of shape, span or shared place, and else by the replies
abbrev pub fault_or_replies : List Stamped → Option Verdict → Verdict
fault_or_replies ops (Some fault) = fault
fault_or_replies ops None = wrong_reply ops (first_wrong empty (by_point ops))

-- the verdict on a history: its first fault of shape, span or shared place, else its first wrong reply, else yes
abbrev pub verdict : List Stamped → Verdict
verdict ops = fault_or_replies ops (first_fault 1 [] ops)
