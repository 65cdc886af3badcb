-- Why a recorded history isn't one of a queue.
use Rattle.std.specs.Prelude.{◌≡◌, ◌⊎◌, ℕ, ◌+◌, ◌-◌, ◌<◌, ◌≤◌, Bool, true, false, IsTrue, ◌||◌, nat_eq, List, [], ◌∷◌, Some, IsSome, IsNone, IsSomeAnd, All, length, slice_get}
use Rattle.history.specs.declared.operations.Op.{Op}
use Rattle.history.specs.declared.operations.Op.TheVariants.{Enq, Deq, Shut}
use Rattle.history.specs.declared.operations.Taken.{Taken}
use Rattle.history.specs.declared.operations.Reply.{Reply}
use Rattle.history.specs.declared.operations.Reply.TheVariants.{Done, Value, Empty, Refused}
use Rattle.history.specs.declared.operations.Stamped.{Stamped}
use Rattle.history.specs.History.{may_refuse}
use Rattle.std.specs.List.{list_any}
use Rattle.waiting_orders.specs.Waiting.{IsOfQueue}
use Rattle.placing.specs.declared.answers.Held.{Held}
use Rattle.placing.specs.declared.answers.Held.TheVariants.{Value as OneValue, Left}
use Rattle.placing.specs.declared.answers.Span.{Span}
use Rattle.placing.specs.declared.answers.Reason.{Reason}
use Rattle.placing.specs.declared.answers.Reason.TheVariants.{Shape, Span as Spans, Reply as Replies, Sooner, Order, Full, Late, Twice, Unshut, Undrained, Stuck}
use Rattle.placing.specs.declared.marks.Marked.{Marked}
use Rattle.placing.specs.Parts.{all_of, begun, cut, part_of, MayBeOut}
use Rattle.placing.specs.Kinds.{Kind, same_value, is_told_in, pushes_in, is_told_shut, is_done_shut, shows_shut, is_done_or_empty, ended_before, ended_by, pushes_of}
use Rattle.placing.specs.Kinds.{pushes_begun_by, pushes_begun_before, takes_ended_by, pending_by, left_in, shuts_begun_by}

-- an operation stands at a place of a list, counted from 1
pub record StandsAt (ops : List Stamped) (place : ℕ) (o : Stamped) : Type 0 where
  pub from_one : 1 ≤ place
  pub there : slice_get ops (place - 1) ≡ Some o

-- exactly one of last step and reply is there
abbrev pub IsMisshapen : Stamped → Type 0
IsMisshapen o = (IsSome o.last × IsNone o.reply) ⊎ (IsNone o.last × IsSome o.reply)

-- it ended before it began
abbrev pub EndsTooSoon : Stamped → Type 0
EndsTooSoon o = IsSomeAnd o.last (λ last. last < o.first)

-- whether a reply is one that such a call may be told
abbrev pub may_be_told : Reply → Op → Bool
may_be_told Done (Enq body) = true
may_be_told Done Deq = false
may_be_told Done Shut = true
may_be_told (Value v) (Enq body) = false
may_be_told (Value v) Deq = true
may_be_told (Value v) Shut = false
may_be_told Empty (Enq body) = false
may_be_told Empty Deq = true
may_be_told Empty Shut = false
may_be_told (Refused refusal) op = may_refuse refusal

-- it was told a reply that such a call is never told
abbrev pub IsToldAmiss : Stamped → Type 0
IsToldAmiss o = IsSomeAnd o.reply (λ reply. may_be_told reply o.op ≡ false)

-- it took a value, and ended at a time
pub record Took (o : Stamped) (v : Taken) (time : ℕ) : Type 0 where
  pub told : o.reply ≡ Some (Value v)
  pub ended : o.last ≡ Some time

-- the operation at a place took a value or pushes it
pub record IsOfValue (ops : List Stamped) (value : Taken) (place : ℕ) : Type 0 where
  pub operation : Stamped
  pub stands : StandsAt ops place operation
  pub of_value : IsTrue (is_told_in (same_value value) operation.reply || pushes_in (same_value value) operation)

-- by the end of this take of a value, more takes of it have ended than pushes of it have begun
pub record IsSooner (ops : List Stamped) (place : ℕ) (others : List ℕ) : Type 0 where
  pub operation : Stamped
  pub value : Taken
  pub time : ℕ
  pub stands : StandsAt ops place operation
  pub took : Took operation value time
  pub fewer : pushes_begun_by time (same_value value) ops < takes_ended_by time (same_value value) ops
  pub others_too : All (IsOfValue ops value) others

-- a value's one push ended before a time, and a take of it began after another time
pub record IsTakenLater (ops : List Stamped) (from until push take : ℕ) : Type 0 where
  pub pushing : Stamped
  pub taking : Stamped
  pub value : Taken
  pub push_stands : StandsAt ops push pushing
  pub pushes : pushes_in (same_value value) pushing ≡ true
  pub ended : ended_before from pushing.last ≡ true
  pub only : pushes_of (same_value value) ops ≤ 1
  pub take_stands : StandsAt ops take taking
  pub takes : is_told_in (same_value value) taking.reply ≡ true
  pub after : until < taking.first

-- the operation at a place is a push, of a value that no pop was told, which ended before a time
pub record IsLeft (ops : List Stamped) (time place : ℕ) : Type 0 where
  pub operation : Stamped
  pub stands : StandsAt ops place operation
  pub pushes : pushes_in (left_in ops) operation ≡ true
  pub ended : ended_before time operation.last ≡ true

-- each number of a list is greater than the one before, and the first is greater than this one
abbrev pub RisesFrom : ℕ → List ℕ → Type 0
RisesFrom least [] = Unit {0}
RisesFrom least (n ∷ ns) = (least < n) × RisesFrom n ns

-- Pushes at these places, of values that no pop was told, ended before a time, and are more than the pending pops
-- that began by another time.
pub record AreLeft (ops : List Stamped) (from until : ℕ) (places : List ℕ) : Type 0 where
  pub rise : RisesFrom 0 places
  pub each : All (IsLeft ops from) places
  pub more : pending_by until ops < length places

-- one of some values is in the queue from one time to another, whatever the order
abbrev pub IsHeld : List Stamped → (from until : ℕ) → Held → Type 0
IsHeld ops from until (OneValue push take) = IsTakenLater ops from until push take
IsHeld ops from until (Left places) = AreLeft ops from until places.items

-- This operation took a value, no push of which began before this one; at its end one of some values is there that were
-- pushed before this push began.
pub record IsOutOfOrder (ops : List Stamped) (place push : ℕ) (held : Held) : Type 0 where
  pub operation : Stamped
  pub pushing : Stamped
  pub value : Taken
  pub time : ℕ
  pub stands : StandsAt ops place operation
  pub took : Took operation value time
  pub push_stands : StandsAt ops push pushing
  pub pushes : pushes_in (same_value value) pushing ≡ true
  pub none_before : pushes_begun_before pushing.first (same_value value) ops ≡ 0
  pub stays : IsHeld ops pushing.first time held

-- these spans, one after another, have each number from one to another
abbrev pub Cover : (first last : ℕ) → List Span → Type 0
Cover first last [] = last < first
Cover first last (span ∷ spans) = (span.first ≤ first) × (span.last < last → Cover (span.last + 1) last spans)

-- an operation shut the queue, or was told that it is shut, and ended at a time
pub record ShowsShut (o : Stamped) (time : ℕ) : Type 0 where
  pub shows : shows_shut o.reply o.op ≡ true
  pub ended : o.last ≡ Some time

-- one of these operations shows that the queue is shut, and ended at a time
pub record IsShownAt (ops : List Stamped) (time : ℕ) : Type 0 where
  pub evidence : Stamped
  pub place : ℕ
  pub stands : StandsAt ops place evidence
  pub shut : ShowsShut evidence time

-- what ended at `last` and found the queue not shut did so by a time: that, or when one ended that shows that it is shut
abbrev pub IsOpenUntil : List Stamped → (last time : ℕ) → Type 0
IsOpenUntil ops last time = (time ≡ last) ⊎ IsShownAt ops time

-- This operation was told that the queue is empty; one of some values is there at each of its numbers, or at each up to
-- when an operation ended that shows that the queue is shut.
pub record IsFull (ops : List Stamped) (place : ℕ) (spans : List Span) : Type 0 where
  pub operation : Stamped
  pub last : ℕ
  pub time : ℕ
  pub stands : StandsAt ops place operation
  pub told : operation.reply ≡ Some Empty
  pub ended : operation.last ≡ Some last
  pub until : IsOpenUntil ops last time
  pub cover : Cover operation.first time spans
  pub each : All (λ span. IsHeld ops span.first span.last span.held) spans

-- an operation began after a time and was told done or empty, or it took a value no push of which began by then
abbrev pub IsTooLate : List Stamped → (time : ℕ) → Stamped → Type 0
IsTooLate ops time o =
    ((is_done_or_empty o.reply ≡ true) × (time < o.first))
    ⊎ ((v : Taken) × (o.reply ≡ Some (Value v)) × (pushes_begun_by time (same_value v) ops ≡ 0))

-- this operation, or the push of the value that it took, began after another one ended that shows that the queue is shut
pub record IsLate (ops : List Stamped) (place other : ℕ) : Type 0 where
  pub operation : Stamped
  pub evidence : Stamped
  pub time : ℕ
  pub stands : StandsAt ops place operation
  pub other_stands : StandsAt ops other evidence
  pub shut : ShowsShut evidence time
  pub late : IsTooLate ops time operation

-- this operation and one before it in the list are shuts that are done
pub record IsTwice (ops : List Stamped) (place other : ℕ) : Type 0 where
  pub operation : Stamped
  pub one : Stamped
  pub stands : StandsAt ops place operation
  pub other_stands : StandsAt ops other one
  pub apart : other < place
  pub shut : is_done_shut operation.reply operation.op ≡ true
  pub one_shut : is_done_shut one.reply one.op ≡ true

-- this operation was told that the queue is shut, and by its end no shut began that wasn't refused
pub record IsUnshut (ops : List Stamped) (place : ℕ) : Type 0 where
  pub operation : Stamped
  pub time : ℕ
  pub stands : StandsAt ops place operation
  pub told : is_told_shut operation.reply ≡ true
  pub ended : operation.last ≡ Some time
  pub none : shuts_begun_by time ops ≡ 0

-- a push at a place and a take at another are of one value, and the take began after a time
pub record IsTakenBehind (ops : List Stamped) (until push take : ℕ) : Type 0 where
  pub pushing : Stamped
  pub taking : Stamped
  pub value : Taken
  pub push_stands : StandsAt ops push pushing
  pub pushes : pushes_in (same_value value) pushing ≡ true
  pub take_stands : StandsAt ops take taking
  pub takes : is_told_in (same_value value) taking.reply ≡ true
  pub after : until < taking.first

-- A value is there until a pop ends that was told that the queue is shut: it was taken later, however often and whenever it
-- was pushed, or it is one of values that no pop was told, whose pushes ended before a time.
abbrev pub IsThere : List Stamped → (from until : ℕ) → Held → Type 0
IsThere ops from until (OneValue push take) = IsTakenBehind ops until push take
IsThere ops from until (Left places) = AreLeft ops from until places.items

-- This pop was told that the queue is shut, and so empty, and a value is there until it ends, pushed before the shut.
pub record IsUndrained (ops : List Stamped) (place : ℕ) (held : Held) : Type 0 where
  pub operation : Stamped
  pub from : ℕ
  pub until : ℕ
  pub stands : StandsAt ops place operation
  pub pops : operation.op ≡ Deq
  pub told : is_told_shut operation.reply ≡ true
  pub ended : operation.last ≡ Some until
  pub stays : IsThere ops from until held

-- the operation at a place has a fault
abbrev pub HasAt : List Stamped → ℕ → (Stamped → Type 0) → Type 0
HasAt ops place Fault = (o : Stamped) × StandsAt ops place o × Fault o

-- an operation was told a reply by a number, and is no push that may have had its effect
pub record IsToldOther (time : ℕ) (o : Stamped) : Type 0 where
  pub told : ended_by time o.last ≡ true
  pub other : (kind : Kind) → pushes_in kind o ≡ false

-- an operation ended, and is no push that may have had its effect
pub record IsEndedOther (o : Stamped) : Type 0 where
  pub ended : IsSome o.last
  pub other : (kind : Kind) → pushes_in kind o ≡ false

-- an operation that ended is a push that may have had its effect
abbrev pub IsPushIfEnded : Stamped → Type 0
IsPushIfEnded o = IsSome o.last → (kind : Kind) × (pushes_in kind o ≡ true)

-- a call is an operation at its place, as it was at a number
pub record IsCutOf (ops : List Stamped) (time : ℕ) (call : Marked) : Type 0 where
  pub operation : Stamped
  pub stands : StandsAt ops call.place operation
  pub is : call.operation ≡ cut time operation

-- an operation stands at a place
pub record IsPlace (ops : List Stamped) (place : ℕ) : Type 0 where
  pub operation : Stamped
  pub stands : StandsAt ops place operation

-- a place is this one, or one of the others
abbrev pub IsOneOf : (place : ℕ) → (others : List ℕ) → ℕ → Type 0
IsOneOf place others at = (at ≡ place) ⊎ (list_any (λ other. nat_eq other at) others ≡ true)

-- a call that is in a part is at this place, or at one of the others
abbrev pub IsNamed : (place : ℕ) → (others : List ℕ) → Marked → Type 0
IsNamed place others call = call.is_in ≡ true → IsOneOf place others call.place

-- This operation was told a reply by a number, and is no push that may have had its effect. Of the calls that began by then, some
-- aren't those of a queue, each of which is this one or one of the others; the rest may be left out.
pub record IsStuck (ops : List Stamped) (place : ℕ) (others : List ℕ) : Type 0 where
  pub time : ℕ
  pub calls : List Marked
  pub part : List Stamped
  pub stands : HasAt ops place (IsToldOther time)
  pub others_stand : All (IsPlace ops) others
  pub begun : all_of calls ≡ begun time ops
  pub each : All (IsCutOf ops time) calls
  pub named : All (IsNamed place others) calls
  pub is_part : part ≡ part_of calls
  pub out : All (MayBeOut part) calls
  pub none : IsOfQueue part → ⊥

-- what a reason says of a history
abbrev pub IsReason : List Stamped → Reason → Type 0
IsReason ops (Shape place) = HasAt ops place IsMisshapen
IsReason ops (Spans place) = HasAt ops place EndsTooSoon
IsReason ops (Replies place) = HasAt ops place IsToldAmiss
IsReason ops (Sooner place others) = IsSooner ops place others.items
IsReason ops (Order place push held) = IsOutOfOrder ops place push held
IsReason ops (Full place spans) = IsFull ops place spans.items
IsReason ops (Late place other) = IsLate ops place other
IsReason ops (Twice place other) = IsTwice ops place other
IsReason ops (Unshut place) = IsUnshut ops place
IsReason ops (Undrained place held) = IsUndrained ops place held
IsReason ops (Stuck place others) = IsStuck ops place others.items
