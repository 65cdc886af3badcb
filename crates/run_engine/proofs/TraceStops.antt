-- How far events can be made.
use Rattle.std.proofs.Common.{◌≡◌, ℕ, ◌+◌, ◌<◌, ◌≤◌, List, ◌∷◌, ◌++◌, length, take, drop, get_or, All, Option, Some, None, refl, sym, ap, subst, ◌∙◌, arith, take-append-drop}
use Rattle.std.specs.List.{slice_get}
use Rattle.std.specs.Prelude.{IsSome}
use Rattle.std.proofs.lemmas.List.Elements.{All-take}
use Rattle.std.proofs.lemmas.List.{drop_more, length-take-le}
use Rattle.std.proofs.lemmas.Option.{get_or_from_slice_get, slice_get-get_or, slice_get_within}
use Rattle.engine_faults.specs.Faults.{IsMoveRefusal}
use Rattle.history.specs.declared.refusals.Refusal.{Refusal}
use Rattle.run_engine.specs.Runs.{EventRefused, EventsLead, EventsRefused, opening_of, world_after}
use Rattle.run_engine.proofs.Leading.{world_after-moves_of}
use Rattle.schedule_text.specs.declared.schedules.Event.{Event}
use Rattle.schedule_text.specs.Schedules.{Schedule, header_lines, moves_of}
use Rattle.schedule_text.specs.Texts.{IsEventInRange, IsInRange}
use Rattle.step_machine.specs.Machine.{World}
use Rattle.run_engine.specs.declared.counts.RunExtent.{RunExtent}
use Rattle.run_engine.specs.Extents.{IsCount, IsExtentOf, StopsAt}
use Rattle.run_engine.proofs.HasCounted.{HasCounted}

module _ (start : World) (events : List Event) where
  -- the next event is refused
  pub IsCount-refused : (w : World) (i made steps : ℕ) (event : Event) (refusal : Refusal) → HasCounted start events w i → made ≡ i
      → i < length events → event ≡ get_or events i event → steps ≡ w.steps
      → IsMoveRefusal refusal → EventRefused w event refusal → IsCount start events (record { made = made; steps = steps; refusal = Some refusal })
  IsCount-refused w i made steps event refusal so_far counted within is same kind refused =
      let at : i ≡ made = sym counted in
      let got : slice_get events i ≡ Some event = slice_get-get_or events i event within ∙ ap (λ (e : Event). Some e) (sym is) in
      record {
        within = omega (arith, at, within);
        world = w;
        led = subst (λ (n : ℕ). EventsLead start (take n events) w) at so_far.led;
        steps = same;
        few = omega (arith, so_far.steps, counted);
        stops = (event, subst (λ (n : ℕ). slice_get events n ≡ Some event) at got, kind, refused);
      }

  -- there are no more
  pub IsCount-all : (w : World) (i made steps : ℕ) → HasCounted start events w i → made ≡ i → i ≤ length events → length events ≤ i → steps ≡ w.steps
      → IsCount start events (record { made = made; steps = steps; refusal = None })
  IsCount-all w i made steps so_far counted within over same =
      let at : i ≡ made = sym counted in
      record {
        within = omega (arith, at, within);
        world = w;
        led = subst (λ (n : ℕ). EventsLead start (take n events) w) at so_far.led;
        steps = same;
        few = omega (arith, so_far.steps, counted);
        stops = omega (arith, counted, over);
      }

-- an event behind those that were made is refused in its line
abbrev pub events_refused : (s : Schedule) (made line : ℕ) (w : World) (event : Event) (refusal : Refusal) → EventsLead (opening_of s) (take made s.events) w → slice_get s.events made ≡ Some event
    → EventRefused w event refusal → line ≡ header_lines s.version + made + 1 → EventsRefused (header_lines s.version) (opening_of s) s.events line refusal
events_refused s made line w event refusal led got refused at =
    let within = slice_get_within s.events made event got in
    let is = get_or_from_slice_get s.events made event event got in
    record {
      before = take made s.events;
      event = event;
      later = drop (made + 1) s.events;
      split =
          sym (take-append-drop made s.events)
          ∙ ap (λ (l : List Event). take made s.events ++ l) (drop_more s.events made event within ∙ ap (λ (e : Event). e ∷ drop (made + 1) s.events) is);
      counted = omega (arith, at, length-take-le made s.events (omega (arith, within)));
      world = w;
      led = led;
      refused = refused;
    }

-- events that lead to a world lead to this one alone
pub led_alone : (start w v : World) (events : List Event) → EventsLead start events w → world_after (moves_of events) start ≡ Some v → v ≡ w
led_alone start w v events led made =
    let both : Some v ≡ Some w = sym made ∙ world_after-moves_of events start w led in
    cc

module _ (s : Schedule) (counted : RunExtent) (count : IsExtentOf s counted) where
  -- why the next event can't be made
  pub stops_at : (o : Option Refusal) → counted.refusal ≡ o → StopsAt s.events counted.made count.world o
  stops_at o is = subst (λ (o : Option Refusal). StopsAt s.events counted.made count.world o) is count.stops

  -- what it is refused
  pub is_refused : (refusal : Refusal) → counted.refusal ≡ Some refusal → IsMoveRefusal refusal
  is_refused refusal some = (stops_at (Some refusal) some).2

  -- those that can be made are few, in range, and lead on from the opening world
  pub can_make : (events : List Event) (w : World) → events ≡ take counted.made s.events → w ≡ opening_of s → IsInRange s
      → All IsEventInRange events × (length events ≤ 1000000 × ((w.steps ≡ 0) × IsSome (world_after (moves_of events) w)))
  can_make events w same opening range =
      let first = take counted.made s.events in
      let led : IsSome (world_after (moves_of first) (opening_of s)) = rw (world_after-moves_of first (opening_of s) count.world count.led) refl in
      rw (same, opening) (
        All-take IsEventInRange counted.made s.events (λ k d within. (range.each k d within).1),
        (omega (arith, length-take-le counted.made s.events count.within, count.within, range.events), (refl, led)),
      )
