-- How many pushes and takes of some values a history has by a time.
use Rattle.std.specs.Prelude.{ℕ, Bool, true, false, ◌&&◌, nat_eq, nat_lt, nat_le, List, Option, None, Some, count_by}
use Rattle.history.specs.declared.operations.Op.{Op}
use Rattle.history.specs.declared.operations.Op.TheVariants.{Enq, Deq, Shut}
use Rattle.history.specs.declared.operations.Taken.{Taken}
use Rattle.history.specs.declared.operations.Reply.{Reply}
use Rattle.history.specs.declared.operations.Reply.TheVariants.{Done, Value, Empty, Refused}
use Rattle.history.specs.declared.operations.Stamped.{Stamped}
use Rattle.history.specs.History.{is_closed}
use Rattle.history.specs.Tallies.{is_not_refused}

-- values of a kind
abbrev pub Kind : Type 0
Kind = Taken → Bool

-- the kind of one value
abbrev pub same_value : Taken → Kind
same_value v w = nat_eq v.from w.from && nat_eq v.body w.body

-- whether an operation was told a value of a kind
abbrev pub is_told_in : Kind → Option Reply → Bool
is_told_in kind None = false
is_told_in kind (Some Done) = false
is_told_in kind (Some (Value v)) = kind v
is_told_in kind (Some Empty) = false
is_told_in kind (Some (Refused refusal)) = false

-- whether a call pushes a value of a kind
abbrev pub is_push_in : Kind → (actor : ℕ) → Op → Bool
is_push_in kind actor (Enq body) = kind (record { from = actor; body = body })
is_push_in kind actor Deq = false
is_push_in kind actor Shut = false

-- whether an operation pushes a value of a kind, and was not refused
abbrev pub pushes_in : Kind → Stamped → Bool
pushes_in kind o = is_not_refused o.reply && is_push_in kind o.actor o.op

-- whether an operation is a pop that was told nothing
abbrev pub is_pending_pop : Op → Option Reply → Bool
is_pending_pop Deq None = true
is_pending_pop Deq (Some reply) = false
is_pending_pop (Enq body) reply = false
is_pending_pop Shut reply = false

-- whether a call is a shut
abbrev pub is_shut_call : Op → Bool
is_shut_call (Enq body) = false
is_shut_call Deq = false
is_shut_call Shut = true

-- whether an operation was told that the queue is shut
abbrev pub is_told_shut : Option Reply → Bool
is_told_shut None = false
is_told_shut (Some Done) = false
is_told_shut (Some (Value v)) = false
is_told_shut (Some Empty) = false
is_told_shut (Some (Refused refusal)) = is_closed refusal

-- whether an operation is a shut that is done
abbrev pub is_done_shut : Option Reply → Op → Bool
is_done_shut None op = false
is_done_shut (Some Done) op = is_shut_call op
is_done_shut (Some (Value v)) op = false
is_done_shut (Some Empty) op = false
is_done_shut (Some (Refused refusal)) op = false

-- whether an operation shows that the queue is shut: it shut it, or was told so
abbrev pub shows_shut : Option Reply → Op → Bool
shows_shut None op = false
shows_shut (Some Done) op = is_shut_call op
shows_shut (Some (Value v)) op = false
shows_shut (Some Empty) op = false
shows_shut (Some (Refused refusal)) op = is_closed refusal

-- whether an operation was told what only a queue that isn't shut answers: done, or that it is empty
abbrev pub is_done_or_empty : Option Reply → Bool
is_done_or_empty None = false
is_done_or_empty (Some Done) = true
is_done_or_empty (Some (Value v)) = false
is_done_or_empty (Some Empty) = true
is_done_or_empty (Some (Refused refusal)) = false

-- whether an operation ended before a time
abbrev pub ended_before : ℕ → Option ℕ → Bool
ended_before time None = false
ended_before time (Some last) = nat_lt last time

-- whether an operation ended by a time
abbrev pub ended_by : ℕ → Option ℕ → Bool
ended_by time None = false
ended_by time (Some last) = nat_le last time

-- how many pushes of a kind were not refused; pending ones count
abbrev pub pushes_of : Kind → List Stamped → ℕ
pushes_of kind ops = count_by (pushes_in kind) ops

-- how many pushes of a kind ended before a time
abbrev pub pushes_ended_before : ℕ → Kind → List Stamped → ℕ
pushes_ended_before time kind ops = count_by (λ o. pushes_in kind o && ended_before time o.last) ops

-- how many pushes of a kind began by a time
abbrev pub pushes_begun_by : ℕ → Kind → List Stamped → ℕ
pushes_begun_by time kind ops = count_by (λ o. pushes_in kind o && nat_le o.first time) ops

-- how many pushes of a kind began before a time
abbrev pub pushes_begun_before : ℕ → Kind → List Stamped → ℕ
pushes_begun_before time kind ops = count_by (λ o. pushes_in kind o && nat_lt o.first time) ops

-- how many pops that were told values of a kind ended by a time
abbrev pub takes_ended_by : ℕ → Kind → List Stamped → ℕ
takes_ended_by time kind ops = count_by (λ o. is_told_in kind o.reply && ended_by time o.last) ops

-- how many pops that were told values of a kind began by a time
abbrev pub takes_begun_by : ℕ → Kind → List Stamped → ℕ
takes_begun_by time kind ops = count_by (λ o. is_told_in kind o.reply && nat_le o.first time) ops

-- how many pops that were told values of a kind began after a time
abbrev pub takes_begun_after : ℕ → Kind → List Stamped → ℕ
takes_begun_after time kind ops = count_by (λ o. is_told_in kind o.reply && nat_lt time o.first) ops

-- how many pending pops began by a time
abbrev pub pending_by : ℕ → List Stamped → ℕ
pending_by time ops = count_by (λ o. is_pending_pop o.op o.reply && nat_le o.first time) ops

-- how many pops were told values of a kind
abbrev pub takes_of : Kind → List Stamped → ℕ
takes_of kind ops = count_by (λ o. is_told_in kind o.reply) ops

-- the values that no pop was told
abbrev pub left_in : List Stamped → Kind
left_in ops v = nat_eq (takes_of (same_value v) ops) 0

-- how many shuts that were not refused began by a time; pending ones count
abbrev pub shuts_begun_by : ℕ → List Stamped → ℕ
shuts_begun_by time ops = count_by (λ o. (is_not_refused o.reply && is_shut_call o.op) && nat_le o.first time) ops
