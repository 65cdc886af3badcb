-- Events of which some were made.
use Rattle.std.proofs.Common.{◌≡◌, ℕ, ◌+◌, ◌*◌, ◌<◌, ◌≤◌, List, [], ◌∷◌, ◌++◌, length, take, get_or, refl, sym, ap, subst, ◌∙◌, arith}
use Rattle.std.proofs.lemmas.List.{take_all, take_more}
use Rattle.run_engine.specs.Runs.{EventLeads, EventsLead}
use Rattle.run_engine.proofs.Leading.{EventsLead-one_more}
use Rattle.schedule_text.specs.declared.schedules.Event.{Event}
use Rattle.step_machine.specs.Machine.{World}

-- so many events were made from a world on
pub record HasCounted (start : World) (events : List Event) (w : World) (i : ℕ) : Type 0 where
  pub led : EventsLead start (take i events) w
  pub steps : w.steps ≤ i * 1000000

module _ (start : World) (events : List Event) where
  -- none was
  pub HasCounted-none : start.steps ≡ 0 → HasCounted start events start 0
  HasCounted-none none = record { led = refl; steps = omega (arith, none) }

  -- one more was
  pub HasCounted-more : (w v : World) (i : ℕ) (event : Event) → HasCounted start events w i → i < length events → event ≡ get_or events i event
      → EventLeads w event v → v.steps ≤ w.steps + 1000000 → HasCounted start events v (i + 1)
  HasCounted-more w v i event so_far within is leads few = record {
    led =
        subst (λ (l : List Event). EventsLead start l v) (sym (take_more events i event within ∙ ap (λ (e : Event). take i events ++ e ∷ []) (sym is)))
        (EventsLead-one_more (take i events) event start w v so_far.led leads);
    steps = omega (arith, few, so_far.steps);
  }

  -- all were
  pub HasCounted-all : (w : World) (i : ℕ) → HasCounted start events w i → length events ≤ i → EventsLead start events w
  HasCounted-all w i so_far over = subst (λ (l : List Event). EventsLead start l w) (take_all i events over) so_far.led
