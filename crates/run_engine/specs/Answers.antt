-- What an engine answers that writes of a schedule up to an event that is refused.
use Rattle.std.specs.Prelude.{◌≡◌, ℕ, ◌≤◌, ◌⊎◌, List, Option, Some, None, Result, OnOk, OnErr, IfErr, IfSome}
use Rattle.std.specs.Io.KnownBytes.{Appends}
use Rattle.engine_faults.specs.Faults.{IsEventRefusal}
use Rattle.engine_faults.specs.declared.faults.Fault.{Fault}
use Rattle.history.specs.declared.refusals.Refusal.{Refusal}
use Rattle.history.specs.declared.refusals.Refusal.TheVariants.{Memory, Write}
use Rattle.run_engine.specs.Runs.{EventsLead, EventsRefused, opening_of}
use Rattle.schedule_text.specs.declared.schedules.Event.{Event}
use Rattle.schedule_text.specs.Schedules.{Schedule, header_lines}
use Rattle.schedule_text.specs.Texts.{IsInRange, schedule_text}
use Rattle.step_machine.specs.Machine.{World}
use Rattle.text_io.specs.Blocks.{Sends, TakesPrefix, GivesUp}
use Rattle.text_io.specs.Devices.{SinkState}
use Rattle.text_io.specs.Readings.{WereAll}

-- why the writing of steps stops: the writer gave up, or memory was refused and no call failed
abbrev pub StopsTelling : Refusal → (old new : SinkState) → Type 0
StopsTelling Write old new = GivesUp old new
StopsTelling Memory old new = new.failures ≡ old.failures
StopsTelling _ old new = ⊥

-- what the writing of steps answers: the sink took the text but for what is held back, and no call failed; or a prefix of
-- it was taken, and the writer gave up or memory was refused
pub record Tells {A : Type 0} (old new : SinkState) (text held : List ℕ) (result : Result A Refusal) : Type 0 where
  pub ok : OnOk result (Sends old.contents new.contents text held)
  pub quiet : OnOk result (new.failures ≡ old.failures)
  pub prefix : OnErr result (TakesPrefix old.contents new.contents text)
  pub cause : IfErr result (λ refusal. StopsTelling refusal old new)

-- what is written of a run: of all events of a schedule, which lead to a world; and of some of them, which lead to a world in which
-- the next one is refused
pub record RunText : Type 0 where
  pub whole : Schedule → World → List ℕ
  pub stopped : Schedule → List Event → World → Event → List ℕ

-- a schedule's events lead to a world, and this is what is written of that run
pub record IsWholeOf (t : RunText) (s : Schedule) (text : List ℕ) : Type 0 where
  pub world : World
  pub led : EventsLead (opening_of s) s.events world
  pub told : text ≡ t.whole s world

-- the events of a schedule are refused at the one in this line, and this is what is written of those before it, and of where the
-- actors stand then
pub record IsStopOf (t : RunText) (s : Schedule) (line : ℕ) (refusal : Refusal) (text : List ℕ) : Type 0 where
  pub stop : EventsRefused (header_lines s.version) (opening_of s) s.events line refusal
  pub told : text ≡ t.stopped s stop.before stop.world stop.event

-- what is written of a schedule, whether all its events can be made or one of them is refused
abbrev pub IsDueOf : RunText → Schedule → (text : List ℕ) → Type 0
IsDueOf t s text = IsWholeOf t s text ⊎ ((line : ℕ) × (refusal : Refusal) × IsStopOf t s line refusal text)

-- that of all events of a schedule was written
abbrev pub HasWritten : RunText → Schedule → (old new : SinkState) → Type 0
HasWritten t s old new = (text : List ℕ) × IsWholeOf t s text × Appends old.contents new.contents text

-- that up to the event in this line, which is refused, was written
abbrev pub HasStopped : RunText → Schedule → (line : ℕ) → Refusal → (old new : SinkState) → Type 0
HasStopped t s line refusal old new = (text : List ℕ) × IsStopOf t s line refusal text × Appends old.contents new.contents text

-- a prefix of it was written
abbrev pub HasBegun : RunText → Schedule → (old new : SinkState) → Type 0
HasBegun t s old new = (text : List ℕ) × IsDueOf t s text × TakesPrefix old.contents new.contents text

-- known bytes were the text of a schedule in range, of which this holds
pub record OfSchedule (given : Option (List ℕ)) (P : Schedule → Type 0) : Type 0 where
  pub schedule : Schedule
  pub in_range : IsInRange schedule
  pub read : WereAll given (schedule_text schedule)
  pub holds : P schedule

-- what an engine may be refused as a whole that writes of a schedule
abbrev pub IsTracingRefusal : Refusal → Type 0
IsTracingRefusal Memory = Unit {0}
IsTracingRefusal Write = Unit {0}
IsTracingRefusal _ = ⊥

-- it is refused as a whole, or comes with the line of an event that is refused, which is the seventh one or a later one
abbrev pub IsTracingFault : Refusal → Option ℕ → Type 0
IsTracingFault refusal None = IsTracingRefusal refusal
IsTracingFault refusal (Some line) = IsEventRefusal refusal × (7 ≤ line)

-- the events of a schedule are refused at the one in this line, if at one
abbrev pub IsRefusedIn : Schedule → Option ℕ → Refusal → Type 0
IsRefusedIn s line refusal = IfSome line (λ line. EventsRefused (header_lines s.version) (opening_of s) s.events line refusal)

-- an engine answers so of a schedule: the whole was written; or an event of it is refused, and what is due up to that was written;
-- or it is refused memory, or the writer gave up, and nothing was written, or a prefix was
pub record Answers (t : RunText) (s : Schedule) (old new : SinkState) (same : Type 0) (result : Result (Unit {0}) Fault) : Type 0 where
  pub ok : OnOk result (HasWritten t s old new)
  pub quiet : OnOk result (new.failures ≡ old.failures)
  pub fault : IfErr result (λ fault. IsTracingFault fault.refusal fault.line)
  pub refused : IfErr result (λ fault. IsRefusedIn s fault.line fault.refusal)
  pub stopped : IfErr result (λ fault. IfSome fault.line (λ line. HasStopped t s line fault.refusal old new))
  pub none_failed_there : IfErr result (λ fault. IfSome fault.line (λ line. new.failures ≡ old.failures))
  pub memory : IfErr result (λ fault. fault.refusal ≡ Memory → same ⊎ HasBegun t s old new)
  pub none_failed : IfErr result (λ fault. fault.refusal ≡ Memory → new.failures ≡ old.failures)
  pub write : IfErr result (λ fault. fault.refusal ≡ Write → HasBegun t s old new × GivesUp old new)
