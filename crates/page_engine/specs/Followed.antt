-- A trace with where each actor stands behind it, whether an event is refused or none is.
use Rattle.std.specs.Prelude.{◌≡◌, ℕ, ◌+◌, List, [], ◌++◌, codes, decimal, Option, Some, None}
use Rattle.history.specs.declared.refusals.Refusal.{Refusal}
use Rattle.history.specs.declared.refusals.Refusal.TheVariants.{IdleActor, ActorBusy, NotHere}
use Rattle.schedule_text.specs.Schedules.{Schedule, header_lines}
use Rattle.step_machine.specs.Machine.{World}
use Rattle.run_engine.specs.Answers.{IsStopOf, IsWholeOf, RunText}
use Rattle.run_engine.specs.Pieces.{actors_text}
use Rattle.run_engine.specs.Runs.{EventsLead, opening_of}
use Rattle.run_engine.specs.Stands.{standing_text}
use Rattle.run_engine.specs.Steps.{trace_text}
use Rattle.run_engine.specs.TracesWritten.{stopped_text}
use Rattle.run_engine.specs.declared.counts.RunExtent.{RunExtent}
use Rattle.page_engine.specs.declared.given.Stop.{Stop}

-- where each actor stands that has a call, by rising number
abbrev pub stands_text : (bits actors : ℕ) → World → List ℕ
stands_text bits actors w = actors_text (standing_text bits w) actors

-- the same unless an event is refused, as the trace has it then
abbrev pub last_stands : (bits actors : ℕ) → World → Option Refusal → List ℕ
last_stands bits actors w None = stands_text bits actors w
last_stands bits actors w (Some refusal) = []

-- the trace of a run, and where each actor stands behind it
abbrev pub the_followed : RunText
the_followed = record { whole = λ s w. trace_text s w ++ stands_text s.bits s.actors w; stopped = stopped_text }

-- all events of a schedule can be made, and where each actor then stands was added behind other bytes
pub record KeepsStands (s : Schedule) (old new : List ℕ) : Type 0 where
  pub world : World
  pub led : EventsLead (opening_of s) s.events world
  pub added : new ≡ old ++ stands_text s.bits s.actors world

-- the same, unless an event is refused: then nothing was added
pub record KeepsLast (s : Schedule) (extent : RunExtent) (old new : List ℕ) : Type 0 where
  pub world : World
  pub led : extent.refusal ≡ None → EventsLead (opening_of s) s.events world
  pub added : new ≡ old ++ last_stands s.bits s.actors world extent.refusal

-- this is told of a schedule whose events can be made so far: of all of them, or up to the one that is refused
pub record IsFollowed (s : Schedule) (extent : RunExtent) (told : List ℕ) : Type 0 where
  pub whole : extent.refusal ≡ None → IsWholeOf the_followed s told
  pub stopped : (refusal : Refusal) → extent.refusal ≡ Some refusal → IsStopOf the_followed s (header_lines s.version + extent.made + 1) refusal told

-- that was added behind other bytes
pub record KeepsFollowed (s : Schedule) (extent : RunExtent) (old new : List ℕ) : Type 0 where
  pub told : List ℕ
  pub followed : IsFollowed s extent told
  pub added : new ≡ old ++ told

-- the words of what an event may be refused
abbrev pub refusal_words : Refusal → List ℕ
refusal_words IdleActor = codes "6 IdleActor"
refusal_words ActorBusy = codes "7 ActorBusy"
refusal_words NotHere = codes "8 NotHere"
refusal_words _ = codes "9 NoSuchActor"

-- the line of an event that is refused
abbrev pub fault_line : Refusal → (line : ℕ) → List ℕ
fault_line refusal line = codes "fault " ++ refusal_words refusal ++ codes " line " ++ decimal line ++ codes "\n"

-- the line of what is refused, if anything is
abbrev pub fault_text : Option Stop → List ℕ
fault_text None = []
fault_text (Some stop) = fault_line stop.refusal stop.line

-- a schedule's events are refused at one of them, and this is what is told of those before it, of where the actors stand then, and of
-- the fault, with this line of the text that was given
pub record IsStopTold (s : Schedule) (at line : ℕ) (refusal : Refusal) (told : List ℕ) : Type 0 where
  pub text : List ℕ
  pub stop : IsStopOf the_followed s at refusal text
  pub is : told ≡ text ++ fault_line refusal line
