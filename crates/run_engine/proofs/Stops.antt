-- Events that are refused at one of them.
use Rattle.std.proofs.Common.{◌≡◌, ℕ, ◌+◌, List, [], ◌∷◌, ◌++◌, length, append_assoc}
use Rattle.history.specs.declared.refusals.Refusal.{Refusal}
use Rattle.step_machine.specs.Machine.{World}
use Rattle.schedule_text.specs.declared.schedules.Event.{Event}
use Rattle.run_engine.specs.Runs.{EventRefused, EventsLead, EventsRefused}

-- an event is refused, after the events before it; others stand behind it
pub EventsRefused_behind : (before later : List Event) (event : Event) (header line : ℕ) (w v : World) (refusal : Refusal) → line ≡ header + 1 + length before
    → EventsLead w before v → EventRefused v event refusal → EventsRefused header w ((before ++ event ∷ []) ++ later) line refusal
EventsRefused_behind before later event header line w v refusal counted led refused = record {
  before = before;
  event = event;
  later = later;
  split = append_assoc before (event ∷ []) later;
  counted = counted;
  world = v;
  led = led;
  refused = refused;
}
