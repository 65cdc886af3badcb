-- Where acts lead, their events do.
use Rattle.std.proofs.Common.{◌≡◌, ℕ, zero, suc, List, [], ◌∷◌, ◌++◌, Some, refl, sym, subst}
use Rattle.step_machine.specs.Machine.{World}
use Rattle.run_engine.specs.Runs.{EventsLead}
use Rattle.schedule_text.specs.declared.schedules.Event.{Event}
use Rattle.expand_engine.specs.declared.recipes.Act.{Act}
use Rattle.expand_engine.specs.declared.recipes.Said.{Said}
use Rattle.expand_engine.specs.declared.recipes.Said.TheVariants.{Happens, Until, Finish}
use Rattle.expand_engine.specs.Expansions.{ActLeads, ActsLead}
use Rattle.expand_engine.specs.Walks.{Walks, steps_told}

-- events, and then others
EventsLead-append : (first later : List Event) (w u v : World) → EventsLead w first u → EventsLead u later v → EventsLead w (first ++ later) v
EventsLead-append [] later w u v is led = subst (λ (w : World). EventsLead w later v) (sym is) led
EventsLead-append (event ∷ first) later w u v led more = (led.0, led.1, EventsLead-append first later led.0 u v led.2 more)

-- steps, told as events
steps_lead : (w v : World) (me count : ℕ) → Walks w me count v → EventsLead w (steps_told me count) v
steps_lead w v me zero walked = let same : Some w ≡ Some v = walked in cc
steps_lead w v me (suc count) walked = (v, record { named = tt; made = walked }, refl)

-- an act
act_leads : (said : Said) (w v : World) (events : List Event) → ActLeads w said events v → EventsLead w events v
act_leads (Happens event) w v events leads = subst (λ (events : List Event). EventsLead w events v) (sym leads.0) (v, leads.1, refl)
act_leads (Until me line) w v events leads = subst (λ (events : List Event). EventsLead w events v) (sym leads.1) (steps_lead w v me leads.0 leads.2.walked)
act_leads (Finish me) w v events leads = subst (λ (events : List Event). EventsLead w events v) (sym leads.1) (steps_lead w v me leads.0 leads.2.walked)
act_leads _ w v events leads = absurd leads

-- acts
pub acts_lead : (acts : List Act) (w v : World) (events : List Event) → ActsLead w acts events v → EventsLead w events v
acts_lead [] w v events led = subst (λ (events : List Event). EventsLead w events v) (sym led.0) led.1
acts_lead (act ∷ acts) w v events led =
    subst (λ (events : List Event). EventsLead w events v) (sym led.3)
    (EventsLead-append led.1 led.2 w led.0 v (act_leads act.said w led.0 led.1 led.4) (acts_lead acts led.0 v led.2 led.5))
