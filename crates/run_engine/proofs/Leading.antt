-- Events one after another.
use Rattle.std.proofs.Common.{◌≡◌, List, [], ◌∷◌, ◌++◌, Some, refl, ap}
use Rattle.std.proofs.lemmas.List.Concat.{flat_map-cons}
use Rattle.step_machine.specs.Machine.{World}
use Rattle.schedule_text.specs.declared.schedules.Event.{Event}
use Rattle.schedule_text.specs.Schedules.{moves_of, moves_of_event}
use Rattle.run_engine.specs.Runs.{world_after, EventLeads, EventsLead}
use Rattle.run_engine.proofs.Moves.{world_after_both}

-- events, and then one more
pub EventsLead-one_more : (events : List Event) (event : Event) (w v u : World) → EventsLead w events v → EventLeads v event u → EventsLead w (events ++ event ∷ []) u
EventsLead-one_more [] event w v u led leads = (u, rw led leads, refl)
EventsLead-one_more (e ∷ events) event w v u led leads = (led.0, led.1, EventsLead-one_more events event led.0 v u led.2 leads)

-- where events lead their moves do
pub world_after-moves_of : (events : List Event) (w v : World) → EventsLead w events v → world_after (moves_of events) w ≡ Some v
world_after-moves_of [] w v led = ap (λ (w : World). Some w) led
world_after-moves_of (event ∷ events) w v led =
    rw (flat_map-cons moves_of_event event events)
    (world_after_both (moves_of_event event) (moves_of events) w led.0 v led.1.made (world_after-moves_of events led.0 v led.2))
