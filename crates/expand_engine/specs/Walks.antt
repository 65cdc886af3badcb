-- How many steps an actor takes until it stands before a line, or until its call ends.
use Rattle.std.specs.Prelude.{◌≡◌, ℕ, zero, suc, ◌+◌, ◌<◌, ◌≤◌, ◌⊎◌, List, [], ◌∷◌, Option, Some, None, IsSome, replicate}
use Rattle.history.specs.declared.refusals.Refusal.{Refusal}
use Rattle.history.specs.declared.refusals.Refusal.TheVariants.{IdleActor, ActorBusy, NotHere, NoSuchActor}
use Rattle.line_table.specs.declared.lines.Line.{Line}
use Rattle.run_engine.specs.Runs.{world_after}
use Rattle.schedule_text.specs.declared.schedules.Event.{Event}
use Rattle.schedule_text.specs.declared.schedules.Event.TheVariants.{Steps}
use Rattle.step_machine.specs.Calls.{line_of, IsBusy, IsIdle}
use Rattle.step_machine.specs.Machine.{World, actor_of}
use Rattle.step_machine.specs.declared.actors.Move.TheVariants.{Step}

-- so many steps of an actor lead from a world to another
abbrev pub Walks : World → (me count : ℕ) → World → Type 0
Walks w me count v = world_after (replicate count (Step me)) w ≡ Some v

-- the events that so many steps of an actor are: one, and none where there are none
abbrev pub steps_told : (me count : ℕ) → List Event
steps_told me zero = []
steps_told me (suc count) = Steps me (suc count) ∷ []

-- an actor is there, and stands before this line, or has no call
abbrev pub IsStanding : World → (me : ℕ) → Option Line → Type 0
IsStanding w me line = IsSome (actor_of w me) × (line ≡ line_of (actor_of w me))

-- an actor stands before a line
abbrev pub StandsBefore : World → (me : ℕ) → Line → Type 0
StandsBefore w me line = line_of (actor_of w me) ≡ Some line

-- after each number of steps below this one the actor stands before another line
abbrev pub StandsElsewhere : World → (me count : ℕ) → Line → Type 0
StandsElsewhere w me count line = (fewer : ℕ) (u : World) → fewer < count → Walks w me fewer u → ¬ StandsBefore u me line

-- an actor takes the least number of steps after which it stands before a line, at most 64
pub record ComesTo (w : World) (me : ℕ) (line : Line) (count : ℕ) (v : World) : Type 0 where
  pub few : count ≤ 64
  pub walked : Walks w me count v
  pub stands : StandsBefore v me line
  pub least : StandsElsewhere w me count line

-- an actor takes the least number of steps after which it has no call, at most 64
pub record EndsCall (w : World) (me count : ℕ) (v : World) : Type 0 where
  pub busy : IsBusy w me
  pub few : count ≤ 64
  pub walked : Walks w me count v
  pub ended : IsIdle v me
  pub least : (fewer : ℕ) (u : World) → fewer < count → Walks w me fewer u → IsBusy u me

-- an actor with a call doesn't come to a line: its call ends first, or 64 steps don't lead there
pub record ComesNowhere (w : World) (me : ℕ) (line : Line) : Type 0 where
  pub busy : IsBusy w me
  pub count : ℕ
  pub few : count ≤ 64
  pub world : World
  pub walked : Walks w me count world
  pub elsewhere : StandsElsewhere w me (count + 1) line
  pub over : IsIdle world me ⊎ (count ≡ 64)

-- steps up to a line are refused for this cause: the actor isn't there, has no call, or doesn't come to the line
abbrev pub UntilRefused : World → (me : ℕ) → Line → Refusal → Type 0
UntilRefused w me line NoSuchActor = actor_of w me ≡ None
UntilRefused w me line IdleActor = IsIdle w me
UntilRefused w me line NotHere = ComesNowhere w me line
UntilRefused w me line _ = ⊥

-- an actor has its call still after 64 steps
pub record StaysInCall (w : World) (me : ℕ) : Type 0 where
  pub count : ℕ
  pub all : count ≡ 64
  pub world : World
  pub walked : Walks w me count world
  pub start : IsBusy w me
  pub busy : IsBusy world me

-- steps up to a call's end are refused for this cause: the actor isn't there, has no call, or has it after 64 steps
abbrev pub FinishRefused : World → (me : ℕ) → Refusal → Type 0
FinishRefused w me NoSuchActor = actor_of w me ≡ None
FinishRefused w me IdleActor = IsIdle w me
FinishRefused w me ActorBusy = StaysInCall w me
FinishRefused w me _ = ⊥
