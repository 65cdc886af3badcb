-- How often a value is pushed and taken in a history.
use Rattle.std.specs.Prelude.{ℕ, Bool, true, false, ◌&&◌, nat_eq, List, Option, None, Some}
use Rattle.std.specs.List.{count_by}
use Rattle.history.specs.declared.operations.Op.{Op}
use Rattle.history.specs.declared.operations.Op.TheVariants.{Enq, Deq, Shut}
use Rattle.history.specs.declared.operations.Taken.{Taken}
use Rattle.history.specs.declared.operations.Reply.{Reply}
use Rattle.history.specs.declared.operations.Reply.TheVariants.{Done, Value, Empty, Refused}
use Rattle.history.specs.declared.operations.Stamped.{Stamped}
use Rattle.history.specs.History.{same_reply}

-- whether an operation was told this value
abbrev pub is_told : Taken → Option Reply → Bool
is_told v None = false
is_told v (Some reply) = same_reply (Value v) reply

-- whether an operation was not refused
abbrev pub is_not_refused : Option Reply → Bool
is_not_refused None = true
is_not_refused (Some Done) = true
is_not_refused (Some (Value v)) = true
is_not_refused (Some Empty) = true
is_not_refused (Some (Refused refusal)) = false

-- whether a call pushes this value
abbrev pub is_push_of : Taken → (actor : ℕ) → Op → Bool
is_push_of v actor (Enq body) = nat_eq v.from actor && nat_eq v.body body
is_push_of v actor Deq = false
is_push_of v actor Shut = false

-- how many operations were told this value
abbrev pub takes : Taken → List Stamped → ℕ
takes v ops = count_by (λ o. is_told v o.reply) ops

-- how many operations push this value and were not refused; pending ones count
abbrev pub pushes : Taken → List Stamped → ℕ
pushes v ops = count_by (λ o. is_not_refused o.reply && is_push_of v o.actor o.op) ops
