-- The trace that is due of a run.
use Rattle.std.proofs.Common.{◌≡◌, ℕ, ◌++◌, List, [], take, Option, Result, refl, ap, subst, ◌∙◌}
use Rattle.std.specs.List.{slice_get}
use Rattle.std.proofs.lemmas.List.{append-nil, take_all}
use Rattle.std.proofs.lemmas.Option.{slice_get_past}
use Rattle.history.specs.declared.refusals.Refusal.{Refusal}
use Rattle.run_engine.specs.Runs.{opening_of}
use Rattle.schedule_text.specs.declared.schedules.Event.{Event}
use Rattle.schedule_text.specs.Schedules.{Schedule, moves_of}
use Rattle.step_machine.specs.Machine.{World}
use Rattle.text_io.specs.Devices.{SinkState}
use Rattle.run_engine.specs.declared.counts.RunExtent.{RunExtent}
use Rattle.run_engine.specs.Answers.{Tells}
use Rattle.run_engine.specs.Pieces.{moves_text, run_text}
use Rattle.run_engine.specs.Steps.{header_text, move_text}
use Rattle.run_engine.specs.TracesWritten.{due_text, the_trace, trace_pieces}
use Rattle.run_engine.proofs.Answered.{IsDue}

-- it is due
pub trace_due : (s : Schedule) (counted : RunExtent) (w : World) → IsDue the_trace s counted w (due_text s counted.made w)
trace_due s counted w =
    let first = take counted.made s.events in
    let pieces = trace_pieces s.bits w.steps in
    let with : List Event → List ℕ = λ events. header_text s w.steps ++ moves_text (move_text s.bits) (moves_of events) (opening_of s) in
    record {
      whole = λ over.
          ap (λ (o : Option Event). run_text [] pieces s first w o) (slice_get_past s.events counted.made over) ∙ append-nil (with first) ∙ ap with (take_all counted.made s.events over);
      stopped = λ event got. ap (λ (o : Option Event). run_text [] pieces s first w o) got;
    }

-- what is told of it by the number of steps and of bits that are known, is told of it
pub Tells-due : {A : Type 0} (a b : SinkState) (s : Schedule) (made bits steps : ℕ) (w : World) (result : Result A Refusal) → steps ≡ w.steps → s.bits ≡ bits
    → Tells a b (run_text [] (trace_pieces bits steps) s (take made s.events) w (slice_get s.events made)) [] result → Tells a b (due_text s made w) [] result
Tells-due a b s made bits steps w result same split tells =
    let due : run_text [] (trace_pieces bits steps) s (take made s.events) w (slice_get s.events made) ≡ due_text s made w = rw (same, split) refl in
    subst (λ (t : List ℕ). Tells a b t [] result) due tells
