-- Small histories with no places, to try the definition of linearizable on.
use Rattle.std.specs.Prelude.{ℕ, List, [], ◌∷◌, None, Some}
use Rattle.history.specs.declared.operations.Op.TheVariants.{Enq, Deq}
use Rattle.history.specs.declared.operations.Taken.{Taken}
use Rattle.history.specs.declared.operations.Reply.{Reply}
use Rattle.history.specs.declared.operations.Reply.TheVariants.{Done, Value, Empty}
use Rattle.history.specs.declared.operations.Stamped.{Stamped}

-- the value 5 of actor 1
abbrev pub five : Taken
five = record { from = 1; body = 5 }

-- actor 1 pushes 5 from one step to another
abbrev pub push : (first last : ℕ) → Stamped
push first last =
    record { actor = 1; op = Enq 5; first = first; last = Some last; at = None; reply = Some Done }

-- actor 1 began to push 5 at a step, and has not ended
abbrev pub pending_push : (first : ℕ) → Stamped
pending_push first =
    record { actor = 1; op = Enq 5; first = first; last = None; at = None; reply = None }

-- an actor pops from one step to another, and is told this reply
abbrev pub pop : (actor first last : ℕ) → Reply → Stamped
pop actor first last told =
    record { actor = actor; op = Deq; first = first; last = Some last; at = None; reply = Some told }

-- 5 is taken by a pop that ended before the push of 5 began
abbrev pub taken_too_early : List Stamped
taken_too_early = pop 2 1 2 (Value five) ∷ push 3 4 ∷ []

-- the push of 5 ended, and a later pop finds the queue empty
abbrev pub push_lost : List Stamped
push_lost = push 1 2 ∷ pop 2 3 4 Empty ∷ []

-- 5 was pushed once, and two pops take it
abbrev pub taken_twice : List Stamped
taken_twice = push 1 2 ∷ pop 2 3 4 (Value five) ∷ pop 3 5 6 (Value five) ∷ []

-- the push of 5 is pending, and a pop has taken 5
abbrev pub pending_push_taken : List Stamped
pending_push_taken = pending_push 1 ∷ pop 2 2 3 (Value five) ∷ []

-- a pop that began before the push of 5 ended finds the queue empty
abbrev pub overlapping_pop_is_empty : List Stamped
overlapping_pop_is_empty = push 1 3 ∷ pop 2 2 4 Empty ∷ []

-- an actor pops while its own push of 5 goes on, and finds the queue empty
abbrev pub own_pop_during_push : List Stamped
own_pop_during_push = push 1 3 ∷ pop 1 2 4 Empty ∷ []
