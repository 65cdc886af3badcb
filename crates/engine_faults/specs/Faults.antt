-- What an engine may be refused.
use Rattle.std.specs.Prelude.{◌≡◌, ℕ, ◌≤◌, Option, Some, None}
use Rattle.history.specs.declared.refusals.Refusal.{Refusal}
use Rattle.history.specs.declared.refusals.Refusal.TheVariants.{Memory, IdleActor, ActorBusy, NotHere, NoSuchActor, Text, Read, Write}

-- what a run may be refused as a whole
abbrev pub IsRunRefusal : Refusal → Type 0
IsRunRefusal Memory = Unit {0}
IsRunRefusal (Text number cause) = Unit {0}
IsRunRefusal Read = Unit {0}
IsRunRefusal Write = Unit {0}
IsRunRefusal _ = ⊥

-- what an event may be refused
abbrev pub IsEventRefusal : Refusal → Type 0
IsEventRefusal IdleActor = Unit {0}
IsEventRefusal ActorBusy = Unit {0}
IsEventRefusal NotHere = Unit {0}
IsEventRefusal NoSuchActor = Unit {0}
IsEventRefusal _ = ⊥

-- what the moves of an event may be refused
abbrev pub IsMoveRefusal : Refusal → Type 0
IsMoveRefusal Memory = Unit {0}
IsMoveRefusal IdleActor = Unit {0}
IsMoveRefusal ActorBusy = Unit {0}
IsMoveRefusal NotHere = Unit {0}
IsMoveRefusal NoSuchActor = Unit {0}
IsMoveRefusal _ = ⊥

-- the events of a schedule were refused memory, or one of them was refused, with its line, the seventh or a later one
abbrev pub IsEventFault : Refusal → Option ℕ → Type 0
IsEventFault refusal None = refusal ≡ Memory
IsEventFault refusal (Some line) = IsEventRefusal refusal × (7 ≤ line)
