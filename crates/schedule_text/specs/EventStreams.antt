-- The events of a schedule, as they come from a source one call after another.
use Rattle.std.specs.Prelude.{◌≡◌, ℕ, ◌+◌, ◌-◌, ◌++◌, length, map, All, true, List, Option, None, Some, Result, Ok, Err, IfSome}
use Rattle.history.specs.declared.refusals.Refusal.{Refusal}
use Rattle.history.specs.declared.refusals.Refusal.TheVariants.{Memory, Text, Read}
use Rattle.schedule_text.specs.declared.event_stream.Stage.{Stage}
use Rattle.schedule_text.specs.declared.event_stream.Stage.TheVariants.{Going, Ended, Refused}
use Rattle.schedule_text.specs.declared.readers.Header.{Header}
use Rattle.schedule_text.specs.declared.schedules.Event.{Event}
use Rattle.schedule_text.specs.Readers.{IsHeaderInRange, said_in}
use Rattle.schedule_text.specs.Schedules.{Schedule, header_lines}
use Rattle.schedule_text.specs.Texts.{Due, happens, version_due, events_left, schedule_text, IsEventOf, IsInRange}
use Rattle.text_io.specs.Devices.{SourceState}
use Rattle.schedule_text.specs.Streams.{IsOver}
use Rattle.schedule_text.specs.SourceLines.{GaveLines, GaveSaid, IsFirstFaultFrom}

-- how far a schedule was read: the bytes read ahead, what its header says, how many events are left, and what further calls answer
pub record EventStream : Type 0 where
  pub ahead : List ℕ
  pub header : Header
  pub left : ℕ
  pub stage : Stage

-- how many lines were given
abbrev pub lines_given : EventStream → ℕ
lines_given s = header_lines s.header.version + (s.header.events - s.left)

-- the reading of a source behind so many lines is refused: one call failed, or none did, the first faulty line is told, and all was read
abbrev pub IsRefused : (before : ℕ) → Due → (old new : SourceState) → Refusal → Type 0
IsRefused before due old new Read = new.failures ≡ old.failures + 1
IsRefused before due old new (Text at cause) =
    IsFirstFaultFrom before due old.left at cause × (new.failures ≡ old.failures) × (new.has_ended ≡ true)
IsRefused before due old new _ = ⊥

-- the header was given, and all its events are left
pub record IsStarted (s : EventStream) (old new : SourceState) : Type 0 where
  pub lines : GaveLines version_due (said_in s.header) old new
  pub range : IsHeaderInRange s.header
  pub left : s.left ≡ s.header.events
  pub going : s.stage ≡ Going

-- the line of an event was given
pub record GaveEvent (event : Event) (s t : EventStream) (old new : SourceState) : Type 0 where
  pub line : GaveSaid (events_left s.header.version s.left) (happens event) old new
  pub fewer : s.left ≡ t.left + 1
  pub header : t.header ≡ s.header
  pub going : t.stage ≡ Going

-- all events were given, and nothing follows
pub record GaveAll (s t : EventStream) (old new : SourceState) : Type 0 where
  pub none : s.left ≡ 0
  pub over : IsOver old new
  pub header : t.header ≡ s.header
  pub ended : t.stage ≡ Ended

-- a call is refused, and so is each further one
pub record IsRefusedNext (refusal : Refusal) (s t : EventStream) (old new : SourceState) : Type 0 where
  pub refused : IsRefused (lines_given s) (events_left s.header.version s.left) old new refusal
  pub header : t.header ≡ s.header
  pub stays : t.stage ≡ Refused refusal

-- what a call answers where none before it told the end or was refused
abbrev pub IsNext : (s t : EventStream) (old new : SourceState) → Result (Option Event) Refusal → Type 0
IsNext s t old new (Ok (Some event)) = GaveEvent event s t old new
IsNext s t old new (Ok None) = GaveAll s t old new
IsNext s t old new (Err refusal) = IsRefusedNext refusal s t old new

-- the reading of a whole schedule is refused: memory is and no call failed, or a call failed, or the first faulty line is told
abbrev pub IsRefusedReading : (old new : SourceState) → Refusal → Type 0
IsRefusedReading old new Memory = new.failures ≡ old.failures
IsRefusedReading old new refusal = IsRefused 0 version_due old new refusal

-- the header and these events were given, and the others are left
pub record HasRead (s : EventStream) (events : List Event) (old new : SourceState) : Type 0 where
  pub lines : GaveLines version_due (said_in s.header ++ map happens events) old new
  pub range : IsHeaderInRange s.header
  pub counted : length events + s.left ≡ s.header.events
  pub each : All (IsEventOf s.header.version) events
  pub going : s.stage ≡ Going

-- the schedule that a header and events make
abbrev pub schedule_with : Header → List Event → Schedule
schedule_with h events = record {
  version = h.version;
  kind = h.kind;
  bits = h.bits;
  nodes = h.nodes;
  limit = h.limit;
  actors = h.actors;
  events = events;
}

-- a whole schedule was given, and nothing follows
pub record HasReadAll (schedule : Schedule) (old new : SourceState) : Type 0 where
  pub text : IfSome old.left (λ text. text ≡ schedule_text schedule)
  pub range : IsInRange schedule
  pub ended : new.has_ended ≡ true
  pub quiet : new.failures ≡ old.failures
