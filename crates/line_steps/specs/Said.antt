-- What a row says of its call, which knows no numbers of steps, and what it comes to in a step with a number.
use Rattle.std.specs.Prelude.{ℕ, false, Option, Some, None}
use Rattle.line_table.specs.declared.lines.Kind.{Kind}
use Rattle.line_table.specs.declared.lines.Line.TheVariants.{F1}
use Rattle.history.specs.declared.operations.Reply.{Reply}
use Rattle.history.specs.declared.operations.Reply.TheVariants.{Done, Value, Empty, Refused}
use Rattle.line_steps.specs.Actors.{Actor}
use Rattle.line_steps.specs.declared.outcomes.When.{When}
use Rattle.line_steps.specs.declared.outcomes.When.TheVariants.{Open, Here, Noted, AsNoted}
use Rattle.line_steps.specs.declared.outcomes.Said.{Said}
use Rattle.line_steps.specs.Outcomes.{Outcome}
use Rattle.line_steps.specs.Lines.{dequeues, to_pocket}

-- the number at which an operation takes effect
abbrev pub number_of : (now : ℕ) → Actor → When → Option ℕ
number_of now a Open = None
number_of now a Here = Some now
number_of now a Noted = None
number_of now a AsNoted = Some a.empty_at

-- the actor after it noted a number, where it is to
abbrev pub noting : (now : ℕ) → When → Actor → Actor
noting now Noted a = record a { empty_at = now }
noting now _ a = a

-- what a row said, as the outcome of a step with this number
abbrev pub numbered : (now : ℕ) → Actor → Said → Outcome
numbered now a said = record { actor = noting now said.effect a; at = number_of now a said.effect; reply = said.reply; aside = said.aside }

-- a call that goes on
abbrev pub nothing : Said
nothing = record { effect = Open; reply = None; aside = None }

-- where a call takes effect that ends with a reply
abbrev pub effect_of : Reply → When
effect_of Done = Open
effect_of (Value v) = Open
effect_of Empty = AsNoted
effect_of (Refused refusal) = Here

-- a call that ends with a reply
abbrev pub end_of : Reply → Said
end_of reply = record { effect = effect_of reply; reply = Some reply; aside = None }

-- a call whose node is free
abbrev pub freed_said : (due : Option Reply) → Said
freed_said None = nothing
freed_said (Some reply) = end_of reply

-- the actor of that call: a dequeue that has no reply yet begins a turn, one with a reply is over
abbrev pub freed_at : Kind → (due : Option Reply) → Actor → Actor
freed_at kind None a = record a { line = Some (dequeues kind); holds = false }
freed_at kind (Some reply) a = record a { line = None; holds = false }

-- by the reply that is due to it
abbrev pub freed_actor : Kind → Actor → Actor
freed_actor kind a = freed_at kind a.due a

-- a call that let the lock of the tail go
abbrev pub left_said : (due : Option Reply) → Said
left_said (Some (Refused refusal)) = end_of (Refused refusal)
left_said _ = end_of Done

-- the actor of that call, where it has a node that goes to the pocket if the call is refused
abbrev pub left_with_node_at : (due : Option Reply) → Actor → Actor
left_with_node_at (Some (Refused refusal)) a = record (to_pocket a) { line = None }
left_with_node_at _ a = record a { line = None }

-- by the reply that is due to it
abbrev pub left_with_node_actor : Actor → Actor
left_with_node_actor a = left_with_node_at a.due a

-- a call that let the lock of the head go
abbrev pub unlocked_said : (due : Option Reply) → Said
unlocked_said None = nothing
unlocked_said (Some (Value v)) = nothing
unlocked_said (Some Done) = end_of Done
unlocked_said (Some Empty) = end_of Empty
unlocked_said (Some (Refused refusal)) = end_of (Refused refusal)

-- the actor of that call: one that took a value frees the node, any other one is over
abbrev pub unlocked_at : (due : Option Reply) → Actor → Actor
unlocked_at None a = record a { line = Some F1 }
unlocked_at (Some (Value v)) a = record a { line = Some F1 }
unlocked_at (Some Done) a = record a { line = None }
unlocked_at (Some Empty) a = record a { line = None }
unlocked_at (Some (Refused refusal)) a = record a { line = None }

-- by the reply that is due to it
abbrev pub unlocked_actor : Actor → Actor
unlocked_actor a = unlocked_at a.due a
