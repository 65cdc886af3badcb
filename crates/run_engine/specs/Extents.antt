-- How far the events of a schedule can be made.
use Rattle.std.specs.Prelude.{◌≡◌, ℕ, ◌+◌, ◌*◌, ◌≤◌, List, length, take, Option, Some, None, Result, OnOk, IfErr, IfSome}
use Rattle.std.specs.List.{slice_get}
use Rattle.engine_faults.specs.Faults.{IsEventFault, IsMoveRefusal}
use Rattle.engine_faults.specs.declared.faults.Fault.{Fault}
use Rattle.history.specs.declared.refusals.Refusal.{Refusal}
use Rattle.run_engine.specs.Runs.{EventRefused, EventsLead, opening_of}
use Rattle.schedule_text.specs.declared.schedules.Event.{Event}
use Rattle.schedule_text.specs.Schedules.{Schedule, header_lines}
use Rattle.step_machine.specs.Machine.{World}
use Rattle.run_engine.specs.declared.counts.RunExtent.{RunExtent}

-- why no more than so many events were made, which led to this world: there are no more, or the next one is refused
abbrev pub StopsAt : (events : List Event) → (made : ℕ) → World → Option Refusal → Type 0
StopsAt events made w None = length events ≤ made
StopsAt events made w (Some refusal) =
    (event : Event) × (slice_get events made ≡ Some event) × IsMoveRefusal refusal × EventRefused w event refusal

-- so many of these events can be made one after another, from a world on, and are so many steps; the next one is refused
pub record IsCount (start : World) (events : List Event) (counted : RunExtent) : Type 0 where
  pub within : counted.made ≤ length events
  pub world : World
  pub led : EventsLead start (take counted.made events) world
  pub steps : counted.steps ≡ world.steps
  pub few : world.steps ≤ counted.made * 1000000
  pub stops : StopsAt events counted.made world counted.refusal

-- so many events of a schedule can be made, and are so many steps
abbrev pub IsExtentOf : Schedule → RunExtent → Type 0
IsExtentOf s counted = IsCount (opening_of s) s.events counted

-- a schedule is refused as its first event that can't be made is, with the line of that, if there is one
pub record EndsAsCounted (s : Schedule) (counted : RunExtent) (result : Result (Unit {0}) Fault) : Type 0 where
  pub whole : OnOk result (counted.refusal ≡ None)
  pub refusal : IfErr result (λ fault. counted.refusal ≡ Some fault.refusal)
  pub kind : IfErr result (λ fault. IsEventFault fault.refusal fault.line)
  pub line : IfErr result (λ fault. IfSome fault.line (λ line. line ≡ header_lines s.version + counted.made + 1))
