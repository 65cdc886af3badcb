-- What calls may be refused.
use Rattle.std.specs.Prelude.{Bool, true, false, IsTrue, Option, Some, None}
use Rattle.history.specs.declared.refusals.Refusal.{Refusal}
use Rattle.history.specs.declared.refusals.Refusal.TheVariants.{NoNode, WornOut, Busy, Memory, BadSize, Lost, Closed}

-- a letter can't be stored: there is no memory for it, or no body
abbrev pub StopsStore : Refusal → Type 0
StopsStore Memory = Unit {0}
StopsStore BadSize = Unit {0}
StopsStore _ = ⊥

-- a send may be refused so: there was no memory or no body for the letter, or its push was refused
abbrev pub StopsSend : Refusal → Type 0
StopsSend NoNode = Unit {0}
StopsSend (WornOut word) = Unit {0}
StopsSend Busy = Unit {0}
StopsSend Memory = Unit {0}
StopsSend BadSize = Unit {0}
StopsSend Closed = Unit {0}
StopsSend _ = ⊥

-- a send that waits may be refused so: there was no memory or no body for the letter, a word was worn out, or the queue was shut
abbrev pub EndsSend : Refusal → Type 0
EndsSend (WornOut word) = Unit {0}
EndsSend Memory = Unit {0}
EndsSend BadSize = Unit {0}
EndsSend Closed = Unit {0}
EndsSend _ = ⊥

-- whether a send of a letter that is due may be refused so: as one that waits, or there was no node up to its deadline
abbrev pub ends_due : Refusal → Bool
ends_due NoNode = true
ends_due (WornOut word) = true
ends_due Memory = true
ends_due BadSize = true
ends_due Closed = true
ends_due _ = false

-- a send of a letter that is due may be refused so
abbrev pub EndsDue : Refusal → Type 0
EndsDue refusal = IsTrue (ends_due refusal)

-- whether a sender may end so: all was sent, or a send of a letter that is due was refused
abbrev pub may_end : Option Refusal → Bool
may_end None = true
may_end (Some refusal) = ends_due refusal

-- a refusal that is the queue's has this cause; one that is the office's own wants none
abbrev pub HandsOn : (cause : Refusal → Type 0) → Refusal → Type 0
HandsOn cause NoNode = cause NoNode
HandsOn cause (WornOut word) = cause (WornOut word)
HandsOn cause Busy = cause Busy
HandsOn cause Closed = cause Closed
HandsOn cause _ = Unit {0}

-- a take may be refused so: its pop was refused, or a letter is lost
abbrev pub StopsTake : Refusal → Type 0
StopsTake (WornOut word) = Unit {0}
StopsTake Busy = Unit {0}
StopsTake Lost = Unit {0}
StopsTake Closed = Unit {0}
StopsTake _ = ⊥

-- a take that waits may be refused so: a word was worn out, a letter is lost, or the queue was shut and empty
abbrev pub EndsTake : Refusal → Type 0
EndsTake (WornOut word) = Unit {0}
EndsTake Lost = Unit {0}
EndsTake Closed = Unit {0}
EndsTake _ = ⊥

-- letters of tasks may be taken up to such a refusal: a word was worn out, or a letter is lost
abbrev pub EndsTaking : Refusal → Type 0
EndsTaking (WornOut word) = Unit {0}
EndsTaking Lost = Unit {0}
EndsTaking _ = ⊥

-- letters with a thread for each sender may be refused so: a send or a take was refused, but not as the queue was shut, there
-- was no memory, or a letter is missing
abbrev pub EndsPost : Refusal → Type 0
EndsPost NoNode = Unit {0}
EndsPost (WornOut word) = Unit {0}
EndsPost Memory = Unit {0}
EndsPost BadSize = Unit {0}
EndsPost Lost = Unit {0}
EndsPost _ = ⊥
