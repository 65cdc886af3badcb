-- Linearizable recordings, of a queue of texts: that they are asks nothing of numbers.
use Rattle.std.specs.Prelude.{◌≡◌, ◌≤◌, Bool, true, false, if◌then◌else◌, ℕ, List, [], ◌∷◌, ◌++◌, map, None, IfSome}
use Rattle.std.specs.List.{AllByRecursion}
use Rattle.std.specs.List.Sorted.{IsPermutation}
use Rattle.recording_text.specs.Recordings.{Call, Push, Pop, Shut, Told, Done, Value, Empty, Refused, Closed, Recorded}

-- a queue of texts: the front first, and whether it is shut: then nothing is pushed any more
pub record TextQueue : Type 0 where
  pub texts : List (List ℕ)
  pub shut : Bool

-- the queue in which nothing was pushed yet
abbrev pub no_texts : TextQueue
no_texts = record { texts = []; shut = false }

-- what the queue tells a call, and the queue after it
pub record TextAnswer : Type 0 where
  pub told : Told
  pub after : TextQueue

-- the answer to a call that is refused where the queue is shut, and else done
abbrev pub unless_shut : (queue after : TextQueue) → TextAnswer
unless_shut queue after = if queue.shut then record { told = Closed; after = queue } else record { told = Done; after = after }

-- the answer to a pop, by the texts: the front one, or empty, or refused where the queue is shut
abbrev pub front_of : TextQueue → List (List ℕ) → TextAnswer
front_of queue [] = record { told = if queue.shut then Closed else Empty; after = queue }
front_of queue (front ∷ rest) = record { told = Value front; after = record { texts = rest; shut = queue.shut } }

-- what the queue answers to a call: a push puts its text at the back, a pop takes the front one, and a shut ends all pushes
abbrev pub text_response : Call → TextQueue → TextAnswer
text_response (Push text) queue = unless_shut queue (record { texts = queue.texts ++ text ∷ []; shut = queue.shut })
text_response Pop queue = front_of queue queue.texts
text_response Shut queue = unless_shut queue (record { texts = queue.texts; shut = true })

-- the queue after a call that was told this: a refused one leaves it as it is
abbrev pub queue_after : TextQueue → Call → Told → TextQueue
queue_after queue call Refused = queue
queue_after queue call Closed = queue
queue_after queue call Done = (text_response call queue).after
queue_after queue call (Value text) = (text_response call queue).after
queue_after queue call Empty = (text_response call queue).after

-- the queue tells a call this: any may be refused, and else it is what the queue answers
abbrev pub Tells : TextQueue → Call → Told → Type 0
Tells queue call Refused = Unit {0}
Tells queue call Closed = Closed ≡ (text_response call queue).told
Tells queue call Done = Done ≡ (text_response call queue).told
Tells queue call (Value text) = Value text ≡ (text_response call queue).told
Tells queue call Empty = Empty ≡ (text_response call queue).told

-- an operation of an order, and what it is told there
pub record AnsweredOperation : Type 0 where
  pub operation : Recorded
  pub told : Told

-- the operations of an order
abbrev pub operations_of : List AnsweredOperation → List Recorded
operations_of order = map (λ o. o.operation) order

-- an operation has neither ended nor been told anything
pub record IsPending (r : Recorded) : Type 0 where
  pub not_ended : r.last ≡ None
  pub not_told : r.told ≡ None

-- an operation whose reply was recorded is told that one
abbrev pub TellsRecordedReply : AnsweredOperation → Type 0
TellsRecordedReply o = IfSome o.operation.told (λ told. o.told ≡ told)

-- one operation may come before another: the other had not ended when the one began
abbrev pub MayComeBefore : Recorded → Recorded → Type 0
MayComeBefore r s = IfSome s.last (λ last. r.first ≤ last)

-- an operation that ended before another began comes first
abbrev pub KeepsTime : List Recorded → Type 0
KeepsTime [] = Unit {0}
KeepsTime (r ∷ rs) = AllByRecursion (MayComeBefore r) rs × KeepsTime rs

-- from this queue, the operations run one after another, and each is told what it is
abbrev pub IsRun : TextQueue → List AnsweredOperation → Type 0
IsRun queue [] = Unit {0}
IsRun queue (o ∷ rest) = Tells queue o.operation.call o.told × IsRun (queue_after queue o.operation.call o.told) rest

-- A recording is linearizable: there is an order of all its completed operations and some pending ones, each once, with
-- what each pending one is told, that keeps time and is a run of the queue of texts that tells every reply recorded.
pub record IsLinearizableRecording (rs : List Recorded) : Type 0 where
  pub order : List AnsweredOperation
  pub left_out : List Recorded
  pub each_once : IsPermutation rs (operations_of order ++ left_out)
  pub only_pending_left_out : AllByRecursion IsPending left_out
  pub replies : AllByRecursion TellsRecordedReply order
  pub timely : KeepsTime (operations_of order)
  pub runs : IsRun no_texts order
