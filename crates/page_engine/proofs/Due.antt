-- What is due of a schedule that is followed.
use Rattle.std.proofs.Common.{◌≡◌, ◌∙◌, ◌+◌, ◌++◌, ◌≤◌, ℕ, List, Option, Some, None, length, refl, sym, ap, subst}
use Rattle.std.proofs.lemmas.List.{append_assoc, append-nil, take_all}
use Rattle.std.proofs.lemmas.Option.{slice_get_past}
use Rattle.std.specs.Prelude.{false}
use Rattle.history.specs.declared.refusals.Refusal.{Refusal}
use Rattle.schedule_text.specs.declared.schedules.Event.{Event}
use Rattle.schedule_text.specs.Schedules.{Schedule, header_lines}
use Rattle.step_machine.specs.Machine.{World}
use Rattle.text_io.specs.Devices.{SinkState}
use Rattle.run_engine.specs.declared.counts.RunExtent.{RunExtent}
use Rattle.run_engine.specs.Extents.{IsExtentOf}
use Rattle.run_engine.specs.Runs.{EventsLead, opening_of}
use Rattle.run_engine.specs.Steps.{trace_text}
use Rattle.run_engine.specs.TracesWritten.{due_text}
use Rattle.run_engine.proofs.Answered.{IsDue, is_stop, is_whole}
use Rattle.run_engine.proofs.Leading.{world_after-moves_of}
use Rattle.run_engine.proofs.TraceStops.{stops_at}
use Rattle.run_engine.proofs.Traced.{trace_due}
use Rattle.page_engine.specs.Followed.{IsFollowed, KeepsFollowed, KeepsLast, KeepsStands, last_stands, stands_text, the_followed}

-- where no event is refused, where the actors stand is kept
pub last_whole : (s : Schedule) (extent : RunExtent) (old new : List ℕ) → extent.refusal ≡ None → KeepsStands s old new → KeepsLast s extent old new
last_whole s extent old new none kept = record {
  world = kept.world;
  led = λ same. kept.led;
  added = kept.added ∙ ap (λ (o : Option Refusal). old ++ last_stands s.bits s.actors kept.world o) (sym none);
}

-- where one is, nothing is
pub last_stopped : (s : Schedule) (extent : RunExtent) (old : List ℕ) (refusal : Refusal) → extent.refusal ≡ Some refusal → KeepsLast s extent old old
last_stopped s extent old refusal some = record {
  world = opening_of s;
  led = λ none. absurd cc;
  added = sym (append-nil old) ∙ ap (λ (o : Option Refusal). old ++ last_stands s.bits s.actors (opening_of s) o) (sym some);
}

-- a sink of which nothing matters
no_sink : SinkState
no_sink = record { contents = None; failures = 0; is_full = false }

module _ (s : Schedule) (counted : RunExtent) (count : IsExtentOf s counted) (v : World) (whole : counted.refusal ≡ None → EventsLead (opening_of s) s.events v) where
  -- all events lead to the world to which they were counted
  is_same : counted.refusal ≡ None → v ≡ count.world
  is_same none =
      let over : length s.events ≤ counted.made = stops_at s counted count None none in
      let led = subst (λ (l : List Event). EventsLead (opening_of s) l count.world) (take_all counted.made s.events over) count.led in
      let both : Some v ≡ Some count.world = sym (world_after-moves_of s.events (opening_of s) v (whole none)) ∙ world_after-moves_of s.events (opening_of s) count.world led in
      cc

  -- it is due, whether an event is refused or none is
  due_by : (o : Option Refusal) → counted.refusal ≡ o → IsDue the_followed s counted count.world (due_text s counted.made count.world ++ last_stands s.bits s.actors v o)
  due_by None none = record {
    whole = λ over.
        ap (λ (l : List ℕ). l ++ stands_text s.bits s.actors v) ((trace_due s counted count.world).whole over)
        ∙ ap (λ (w : World). trace_text s count.world ++ stands_text s.bits s.actors w) (is_same none);
    stopped = λ event got.
        let both : None ≡ Some event = sym (slice_get_past s.events counted.made (stops_at s counted count None none)) ∙ got in
        absurd cc;
  }
  due_by (Some refusal) some = record {
    whole = λ over.
        let stops = stops_at s counted count (Some refusal) some in
        let both : None ≡ Some stops.0 = sym (slice_get_past s.events counted.made over) ∙ stops.1 in
        absurd cc;
    stopped = λ event got. append-nil (due_text s counted.made count.world) ∙ (trace_due s counted count.world).stopped event got;
  }

  -- so it is told
  followed_by : IsFollowed s counted (due_text s counted.made count.world ++ last_stands s.bits s.actors v counted.refusal)
  followed_by =
      let told = due_text s counted.made count.world ++ last_stands s.bits s.actors v counted.refusal in
      let due = due_by counted.refusal refl in
      record {
        whole = λ none. is_whole the_followed s counted count told due no_sink no_sink (Unit {0}) none;
        stopped = λ refusal some. is_stop the_followed s counted count told due no_sink no_sink (Unit {0}) refusal (header_lines s.version + counted.made + 1) some refl;
      }

  -- and was kept
  pub keeps_followed : (old mid new : List ℕ) → mid ≡ old ++ due_text s counted.made count.world → new ≡ mid ++ last_stands s.bits s.actors v counted.refusal → KeepsFollowed s counted old new
  keeps_followed old mid new traced stood =
      let due = due_text s counted.made count.world in
      let last = last_stands s.bits s.actors v counted.refusal in
      record { told = due ++ last; followed = followed_by; added = stood ∙ ap (λ (l : List ℕ). l ++ last) traced ∙ append_assoc old due last }
