-- How an actor sets out for a step: it goes on with its call, or it gives up or rests and begins another one.
use Rattle.std.specs.Prelude.{◌≡◌, ℕ, true, if◌then◌else◌, Option, Some, None}
use Rattle.line_table.specs.declared.lines.Line.{Line}
use Rattle.history.specs.declared.operations.Op.{Op}
use Rattle.line_steps.specs.declared.actors.Setup.{Setup}
use Rattle.line_steps.specs.Actors.{Actor}
use Rattle.line_steps.specs.Outcomes.{Outcome}
use Rattle.line_steps.specs.Lines.{gives_up}
use Rattle.line_steps.specs.Calls.{is_call, begun}
use Rattle.step_machine.specs.Machine.{rested, may_rest}

-- the moves that come directly before a step and touch no shared word
pub data Prologue : Type 0 where
  continues : Prologue
  begins : Op → Prologue

-- an actor that gave up with an outcome, or else went on
abbrev pub gave_up : Actor → Option Outcome → Actor
gave_up a None = a
gave_up a (Some o) = o.actor

-- an actor out of its call: it rests or gives up where it may
abbrev pub out_of : Actor → Option Line → Actor
out_of a None = a
out_of a (Some l) = if may_rest l then rested a else gave_up a (gives_up 0 a l)

-- an actor as after its give or its rest
abbrev pub at_rest : Actor → Actor
at_rest a = out_of a a.line

-- the actor before its step
abbrev pub after_prologue : Setup → (me : ℕ) → Prologue → Actor → Actor
after_prologue s me continues a = a
after_prologue s me (begins op) a = begun s.kind me op (at_rest a)

-- the moves before the step can be made: the call that begins is one, and no other call is under way
abbrev pub CanStart : Prologue → Actor → Type 0
CanStart continues a = Unit {0}
CanStart (begins op) a = (is_call op ≡ true) × ((at_rest a).line ≡ None)
