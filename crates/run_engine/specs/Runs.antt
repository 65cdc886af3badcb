-- What the run of a schedule reads, does and writes, and what it may be refused.
use Rattle.std.specs.Prelude.{◌≡◌, ◌≢◌, ℕ, ◌+◌, ◌<◌, ◌≤◌, List, [], ◌∷◌, ◌++◌, length, replicate, Option, Some, None, Result, Ok, Err, map, ⊤, IfSome}
use Rattle.std.specs.Io.KnownBytes.{Appends}
use Rattle.text_io.specs.Blocks.{TakesPrefix}
use Rattle.history_text.specs.HistoryText.{history_text}
use Rattle.history.specs.declared.operations.Stamped.{Stamped}
use Rattle.history.specs.declared.refusals.Refusal.{Refusal}
use Rattle.history.specs.declared.refusals.Refusal.TheVariants.{BadSize, IdleActor, NotHere, NoSuchActor, Text, Write}
use Rattle.line_table.specs.declared.lines.Line.{Line}
use Rattle.text_io.specs.Grammars.{IsFirstFault}
use Rattle.history.specs.declared.text_causes.TextCause.{TextCause}
use Rattle.step_machine.specs.declared.actors.Move.{Move}
use Rattle.step_machine.specs.declared.actors.Move.TheVariants.{Step}
use Rattle.step_machine.specs.Calls.{setup_from, line_of, BeginRefused, StepRefused, GiveRefused, IsBusy, IsIdle, IsSpent}
use Rattle.step_machine.specs.Machine.{World, actor_of, opening, made, run}
use Rattle.schedule_text.specs.declared.schedules.Event.{Event}
use Rattle.schedule_text.specs.declared.schedules.Event.TheVariants.{Begin, Step as StepAt, Steps, Give}
use Rattle.schedule_text.specs.Schedules.{Schedule, header_lines, moves_of, moves_of_event}
use Rattle.schedule_text.specs.Texts.{schedule_lines, schedule_text, version_due, IsInRange}
use Rattle.text_io.specs.Devices.{SourceState, SinkState}
use Rattle.text_io.specs.Readings.{WereAll, ReachesEnd, EndsReadingAt}
use Rattle.engine_faults.specs.Faults.{IsEventRefusal, IsRunRefusal}
use Rattle.engine_faults.specs.declared.faults.Fault.{Fault}

-- the world after these moves; none where one of them can't be made
abbrev pub world_after : List Move → World → Option World
world_after moves w = run (map made moves) w

-- the world of a schedule's queue and actors in which nothing happened yet
abbrev pub opening_of : Schedule → World
opening_of s = opening (setup_from s.bits s.kind s.nodes s.limit) s.actors

-- the world that the moves of a schedule lead to; none where one of them can't be made
abbrev pub world_of : Schedule → Option World
world_of s = world_after (moves_of s.events) (opening_of s)

-- an actor stands before the line that an event names, where it names one
abbrev pub StandsWhereNamed : World → Event → Type 0
StandsWhereNamed w (Begin me call) = Unit {0}
StandsWhereNamed w (StepAt me line) = line_of (actor_of w me) ≡ Some line
StandsWhereNamed w (Steps me count) = Unit {0}
StandsWhereNamed w (Give me) = Unit {0}

-- an event leads from a world to another: its moves do, and a step that names its line is one at that line
pub record EventLeads (w : World) (event : Event) (v : World) : Type 0 where
  pub named : StandsWhereNamed w event
  pub made : world_after (moves_of_event event) w ≡ Some v

-- events, one after another, lead from a world to another
abbrev pub EventsLead : World → List Event → World → Type 0
EventsLead w [] v = w ≡ v
EventsLead w (event ∷ events) v = (u : World) × EventLeads w event u × EventsLead u events v

-- steps of an actor are refused at one of them, after those before it
pub record StepsRefused (w : World) (me count : ℕ) (refusal : Refusal) : Type 0 where
  pub taken : ℕ
  pub few : taken < count
  pub world : World
  pub led : world_after (replicate taken (Step me)) w ≡ Some world
  pub refused : StepRefused world me refusal

-- a step at a named line is refused for this cause: the actor isn't there, has no call, stands before another line, or all
-- step numbers are used
abbrev pub StepAtRefused : World → (me : ℕ) → Line → Refusal → Type 0
StepAtRefused w me line NoSuchActor = actor_of w me ≡ None
StepAtRefused w me line IdleActor = IsIdle w me
StepAtRefused w me line NotHere = IsBusy w me × (line_of (actor_of w me) ≢ Some line)
StepAtRefused w me line BadSize = (line_of (actor_of w me) ≡ Some line) × IsSpent w
StepAtRefused w me line _ = ⊥

-- an event is refused: its begin, its step at a line, one of its steps, or its giving up
abbrev pub EventRefused : World → Event → Refusal → Type 0
EventRefused w (Begin me call) refusal = BeginRefused w me refusal
EventRefused w (StepAt me line) refusal = StepAtRefused w me line refusal
EventRefused w (Steps me count) refusal = StepsRefused w me count refusal
EventRefused w (Give me) refusal = GiveRefused w me refusal

-- events are refused at one of them, after those before it; the first event stands behind so many lines
pub record EventsRefused (header : ℕ) (w : World) (events : List Event) (line : ℕ) (refusal : Refusal) : Type 0 where
  pub before : List Event
  pub event : Event
  pub later : List Event
  pub split : events ≡ before ++ event ∷ later
  pub counted : line ≡ header + 1 + length before
  pub world : World
  pub led : EventsLead w before world
  pub refused : EventRefused world event refusal

-- known bytes were the text of a schedule in range, all its events can be made, and the operations are those of the world
-- that they lead to
pub record IsRunOf (given : Option (List ℕ)) (operations : List Stamped) : Type 0 where
  pub schedule : Schedule
  pub in_range : IsInRange schedule
  pub read : WereAll given (schedule_text schedule)
  pub world : World
  pub led : EventsLead (opening_of schedule) schedule.events world
  pub made : world_of schedule ≡ Some world
  pub told : operations ≡ world.operations

-- known bytes were the text of a schedule, and the text of its run's history was written
pub record WritesRun (given : Option (List ℕ)) (old new : SinkState) : Type 0 where
  pub operations : List Stamped
  pub run : IsRunOf given operations
  pub written : Appends old.contents new.contents (history_text operations)

-- known bytes were the text of a schedule, and a prefix of the text of its run's history was written
pub record BeginsRun (given : Option (List ℕ)) (old new : SinkState) : Type 0 where
  pub operations : List Stamped
  pub run : IsRunOf given operations
  pub begun : TakesPrefix old.contents new.contents (history_text operations)

-- known bytes were the text of a schedule in range, and its events are refused at the one in this line
pub record RunRefused (given : Option (List ℕ)) (line : ℕ) (refusal : Refusal) : Type 0 where
  pub schedule : Schedule
  pub in_range : IsInRange schedule
  pub read : WereAll given (schedule_text schedule)
  pub refused : EventsRefused (header_lines schedule.version) (opening_of schedule) schedule.events line refusal

-- known bytes have their first faulty line as a schedule here, with this cause
abbrev pub IsFaultyAt : (given : Option (List ℕ)) → (line : ℕ) → TextCause → Type 0
IsFaultyAt None line cause = ⊤
IsFaultyAt (Some text) line cause = IsFirstFault schedule_lines version_due text line cause

-- where known bytes are refused as a text, that is their first faulty line as a schedule, and what is wrong with it
abbrev pub TellsFaultyLine : (given : Option (List ℕ)) → Refusal → Type 0
TellsFaultyLine given (Text line cause) = IsFaultyAt given line cause
TellsFaultyLine given _ = ⊤

-- a refusal comes with the line of an event, which is the seventh one or a later one, exactly where an event was refused
abbrev pub IsRunFault : Refusal → Option ℕ → Type 0
IsRunFault refusal None = IsRunRefusal refusal
IsRunFault refusal (Some line) = IsEventRefusal refusal × (7 ≤ line)

-- how the reading behind a run ends, by what the run answers
abbrev pub EndsReading : {A : Type 0} → Result A Fault → (old new : SourceState) → Type 0
EndsReading (Ok done) old new = ReachesEnd old new
EndsReading (Err fault) old new = EndsReadingAt fault.refusal old new

-- a run stops before anything is written, for this cause and at this line of an event, if at one
pub record StopsRun (old new : SourceState) (refusal : Refusal) (line : Option ℕ) : Type 0 where
  pub fault : IsRunFault refusal line
  pub text : TellsFaultyLine old.left refusal
  pub refused : IfSome line (λ line. RunRefused old.left line refusal)
  pub unwritten : refusal ≢ Write
  pub reader : EndsReadingAt refusal old new
