-- What a step at a line leaves, once its operation is told what became of it.
use Rattle.std.specs.Prelude.{ℕ, ◌≡◌}
use Rattle.history.specs.declared.operations.Stamped.{Stamped}
use Rattle.line_table.specs.declared.lines.Line.{Line}
use Rattle.line_steps.specs.declared.actors.Setup.{Setup}
use Rattle.line_steps.specs.Actors.{Actor}
use Rattle.line_steps.specs.declared.actors.Told.{Told}
use Rattle.line_steps.specs.Outcomes.{with_outcome}
use Rattle.line_steps.specs.Lines.{action}
use Rattle.line_steps.specs.Rooms.{Memory}
use Rattle.line_steps.specs.Steps.{Stepped, memory_after, outcome_on}

-- a step at a line was taken and its operation was told what became of it: actor, operation and memory are as its outcome says
unfoldable pub PutStep : Setup → (now me : ℕ) → Line → (old : Memory) → Actor → (op : Stamped) → (new : Memory) → Actor → (told : Stamped) → Type 0
PutStep s now me l old a op new b told =
    let o = outcome_on s now me a l old.words in
    (b ≡ o.actor) × (told ≡ with_outcome now o op) × (new ≡ memory_after (action s me a l) o old)

-- what a row told is put down: a step at a line of that row is then taken
abbrev pub PutsDown : (now : ℕ) → Memory → Told → (op : Stamped) → (new : Memory) → (told : Stamped) → Type 0
PutsDown now between t op new told =
    (s : Setup) (me : ℕ) (l row : Line) (old : Memory) (a b : Actor)
    → Stepped s now me row old a between b t → l ≡ row → PutStep s now me l old a op new b told
