-- What is written of a trace.
use Rattle.std.specs.Prelude.{ℕ, List, [], Option, Some, Result, take}
use Rattle.std.specs.List.{slice_get}
use Rattle.engine_faults.specs.declared.faults.Fault.{Fault}
use Rattle.history.specs.declared.refusals.Refusal.{Refusal}
use Rattle.schedule_text.specs.declared.schedules.Event.{Event}
use Rattle.schedule_text.specs.Schedules.{Schedule}
use Rattle.step_machine.specs.Machine.{World}
use Rattle.text_io.specs.Devices.{SinkState}
use Rattle.run_engine.specs.Answers.{Answers, HasBegun, HasStopped, HasWritten, IsWholeOf, OfSchedule, RunText}
use Rattle.run_engine.specs.Pieces.{Pieces, run_text}
use Rattle.run_engine.specs.Stands.{alone_told, standing_text}
use Rattle.run_engine.specs.Steps.{header_text, move_text, trace_text}

-- what a trace has of a run, where so many bits hold a node and the header tells so many steps
abbrev pub trace_pieces : (bits steps : ℕ) → Pieces
trace_pieces bits steps =
    record { heading = λ s. header_text s steps; each = move_text bits; stand = standing_text bits; last = alone_told }

-- the trace of the first events of a schedule, which lead to a world in which the next one is refused
abbrev pub stopped_text : Schedule → List Event → World → Event → List ℕ
stopped_text s before w event = run_text [] (trace_pieces s.bits w.steps) s before w (Some event)

-- the header and the steps of so many events of a schedule, which lead to a world, and what is told of that where the next one is
-- refused
abbrev pub due_text : Schedule → (made : ℕ) → World → List ℕ
due_text s made w = run_text [] (trace_pieces s.bits w.steps) s (take made s.events) w (slice_get s.events made)

-- the trace of a run
abbrev pub the_trace : RunText
the_trace = record { whole = trace_text; stopped = stopped_text }

-- a schedule's events lead to a world, whose trace this is
abbrev pub IsTraceOf : Schedule → (text : List ℕ) → Type 0
IsTraceOf s text = IsWholeOf the_trace s text

-- known bytes were the text of a schedule, and the text of its trace was written
abbrev pub WritesTrace : (given : Option (List ℕ)) → (old new : SinkState) → Type 0
WritesTrace given old new = OfSchedule given (λ s. HasWritten the_trace s old new)

-- known bytes were the text of a schedule, and its trace up to the event in this line, which is refused, was written
abbrev pub WritesStop : (given : Option (List ℕ)) → (line : ℕ) → Refusal → (old new : SinkState) → Type 0
WritesStop given line refusal old new = OfSchedule given (λ s. HasStopped the_trace s line refusal old new)

-- known bytes were the text of a schedule, and a prefix of its trace was written
abbrev pub BeginsTrace : (given : Option (List ℕ)) → (old new : SinkState) → Type 0
BeginsTrace given old new = OfSchedule given (λ s. HasBegun the_trace s old new)

-- the tracing of a schedule answers so
abbrev pub Traces : Schedule → (old new : SinkState) → (same : Type 0) → Result (Unit {0}) Fault → Type 0
Traces s old new same result = Answers the_trace s old new same result
