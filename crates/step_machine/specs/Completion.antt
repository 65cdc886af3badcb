-- The replies that calls under way have earned, and the operations with them.
use Rattle.std.specs.Prelude.{ℕ, Bool, true, false, List, map, Option, Some, None}
use Rattle.std.specs.List.{count_by}
use Rattle.step_machine.specs.Below.{Reply, Done, Value, Stamped, Actor}
use Rattle.step_machine.specs.Machine.{World, actor_of}

-- the reply that a call has earned by its effect: done, or the value taken; an empty reply and a refusal have none
abbrev pub decided_reply : Option Reply → Option Reply
decided_reply (Some Done) = Some Done
decided_reply (Some (Value v)) = Some (Value v)
decided_reply _ = None

-- what the call of an actor will answer, where that is settled
abbrev pub due_of : Option Actor → Option Reply
due_of None = None
due_of (Some a) = a.due

-- the reply that an operation was told, or else, once it took effect, the one that its call has earned
abbrev pub completed_reply : (told : Option Reply) → (at : Option ℕ) → (due : Option Reply) → Option Reply
completed_reply (Some reply) at due = Some reply
completed_reply None None due = None
completed_reply None (Some at) due = decided_reply due

-- an operation with the reply that it was told or that its call has earned
abbrev pub completed : World → Stamped → Stamped
completed w o = record o { reply = completed_reply o.reply o.at (due_of (actor_of w o.actor)) }

-- all operations, with the replies that they were told or that their calls have earned
abbrev pub completion : World → List Stamped
completion w = map (completed w) w.operations

-- whether a reply is a value
abbrev pub is_value : Option Reply → Bool
is_value (Some (Value v)) = true
is_value _ = false

-- how many operations have taken a value
abbrev pub values_taken : List Stamped → ℕ
values_taken ops = count_by (λ o. is_value o.reply) ops
