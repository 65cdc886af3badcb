-- One step at a line: when it can be taken, and what it leaves.
use Rattle.std.specs.Prelude.{ℕ, ◌≡◌, ◌-◌, ◌<◌, IfSome}
use Rattle.line_table.specs.declared.lines.Line.{Line}
use Rattle.line_steps.specs.declared.actors.Setup.{Setup}
use Rattle.line_steps.specs.Actors.{Actor}
use Rattle.line_steps.specs.declared.actors.Told.{Told}
use Rattle.line_steps.specs.Outcomes.{Outcome, settled}
use Rattle.line_steps.specs.Memory.{Shared, Action, found}
use Rattle.line_steps.specs.Lines.{action, outcome}
use Rattle.line_steps.specs.Rooms.{Memory, accessed, aside_after}
use Rattle.line_steps.specs.Ready.{IsCounted, RegistersFit}

-- an actor may take a step: the setup's numbers fit a reference, and the actor's registers can be used
pub record MayStep (bits : ℕ) (s : Setup) (room : ℕ) (a : Actor) : Type 0 where
  pub split : s.bits ≡ bits
  pub counted : IsCounted s
  pub ready : RegistersFit s room a

-- the outcome of a step at a line, on the shared words
unfoldable pub outcome_on : Setup → (now me : ℕ) → Actor → Line → Shared → Outcome
outcome_on s now me a l words = outcome s now me a l (found (action s me a l) words)

-- a step at a line was taken: actor and what is told are the line's outcome, the memory is the one after the line's access, and
-- there is room for the node set aside
pub record Stepped (s : Setup) (now me : ℕ) (l : Line) (old : Memory) (a : Actor) (new : Memory) (b : Actor) (t : Told) : Type 0 where
  pub outcome : settled b t ≡ outcome_on s now me a l old.words
  pub memory : new ≡ accessed (action s me a l) old
  pub aside : IfSome t.aside (λ n. n - 1 < new.room)

-- a memory after the access of a line and what its outcome sets aside
abbrev pub memory_after : Action → Outcome → Memory → Memory
memory_after x o m = let n = accessed x m in record n { aside = aside_after n.aside o.aside }
