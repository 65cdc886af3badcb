-- What an engine answers of a schedule whose events were counted.
use Rattle.std.proofs.Common.{◌≡◌, ℕ, ◌+◌, ◌≤◌, List, [], length, take, Option, Some, None, Result, Ok, Err, inl, inr, refl, sym, subst}
use Rattle.std.specs.Prelude.{IfSome}
use Rattle.std.specs.List.{slice_get}
use Rattle.std.proofs.lemmas.List.{take_all}
use Rattle.engine_faults.specs.Faults.{IsEventFault, IsMoveRefusal}
use Rattle.engine_faults.specs.declared.faults.Fault.{Fault}
use Rattle.history.specs.declared.refusals.Refusal.{Refusal}
use Rattle.history.specs.declared.refusals.Refusal.TheVariants.{Memory, Write}
use Rattle.run_engine.specs.Runs.{EventsLead, opening_of}
use Rattle.schedule_text.specs.declared.schedules.Event.{Event}
use Rattle.schedule_text.specs.Schedules.{Schedule, header_lines}
use Rattle.step_machine.specs.Machine.{World}
use Rattle.text_io.specs.Blocks.{Sends, TakesPrefix}
use Rattle.text_io.specs.Devices.{SinkState}
use Rattle.text_io.proofs.Sends.{Appends-Sends}
use Rattle.run_engine.specs.declared.counts.RunExtent.{RunExtent}
use Rattle.run_engine.specs.Answers.{Answers, HasBegun, IsDueOf, IsStopOf, IsTracingFault, IsWholeOf, RunText, StopsTelling, Tells}
use Rattle.run_engine.specs.Extents.{EndsAsCounted, IsExtentOf}
use Rattle.run_engine.proofs.TraceStops.{events_refused, is_refused, stops_at}

-- what the moves of an event may be refused, with its line, an engine may be
tracing_fault : (refusal : Refusal) (line : Option ℕ) → IsEventFault refusal line → IsTracingFault refusal line
tracing_fault refusal None memory = rw memory tt
tracing_fault refusal (Some line) event = event

-- what holds anyway, holds where there is a line
if_some : (P : Type 0) (line : Option ℕ) → P → IfSome line (λ l. P)
if_some P None holds = tt
if_some P (Some l) holds = holds

-- what holds of a line, holds of the line of a fault, if it has one
told_at : (P : ℕ → Type 0) (at : ℕ) (line : Option ℕ) → IfSome line (λ l. l ≡ at) → P at → IfSome line P
told_at P at None is holds = tt
told_at P at (Some l) is holds = rw is holds

-- no event is refused as a writer is
not_write : (refusal : Refusal) → IsMoveRefusal refusal → refusal ≡ Write → ⊥
not_write refusal moves write = subst IsMoveRefusal write moves

-- a text is what is due of a run, as far as its events can be made
pub record IsDue (t : RunText) (s : Schedule) (counted : RunExtent) (w : World) (text : List ℕ) : Type 0 where
  pub whole : length s.events ≤ counted.made → text ≡ t.whole s w
  pub stopped : (event : Event) → slice_get s.events counted.made ≡ Some event → text ≡ t.stopped s (take counted.made s.events) w event

-- memory was refused before a byte was written
pub Answers-unmade : (t : RunText) (s : Schedule) (a : SinkState) (same : Type 0) (refusal : Refusal) (fault : Fault) → fault ≡ record { refusal = refusal; line = None } → refusal ≡ Memory → same
    → Answers t s a a same (Err fault)
Answers-unmade t s a same refusal fault is memory unchanged =
    subst (λ (f : Fault). Answers t s a a same (Err f)) (sym is)
    (record {
      ok = tt;
      quiet = tt;
      fault = rw memory tt;
      refused = tt;
      stopped = tt;
      none_failed_there = tt;
      memory = λ e. inl unchanged;
      none_failed = λ e. refl;
      write = λ write. absurd cc;
    })

module _ (t : RunText) (s : Schedule) (counted : RunExtent) (count : IsExtentOf s counted) (text : List ℕ) (due : IsDue t s counted count.world text) (a b : SinkState) (same : Type 0) where
  -- where all events can be made, it is written of all
  pub is_whole : counted.refusal ≡ None → IsWholeOf t s text
  is_whole none =
      let over = stops_at s counted count None none in
      record {
        world = count.world;
        led = subst (λ (l : List Event). EventsLead (opening_of s) l count.world) (take_all counted.made s.events over) count.led;
        told = due.whole over;
      }

  -- it is written up to an event that is refused
  pub is_stop : (refusal : Refusal) (line : ℕ) → counted.refusal ≡ Some refusal → line ≡ header_lines s.version + counted.made + 1 → IsStopOf t s line refusal text
  is_stop refusal line some at =
      let stops = stops_at s counted count (Some refusal) some in
      record {
        stop = events_refused s counted.made line count.world stops.0 refusal count.led stops.1 stops.3 at;
        told = due.stopped stops.0 stops.1;
      }

  -- so it is due
  is_due : (o : Option Refusal) → counted.refusal ≡ o → IsDueOf t s text
  is_due None none = inl (is_whole none)
  is_due (Some refusal) some = inr (header_lines s.version + counted.made + 1, refusal, is_stop refusal (header_lines s.version + counted.made + 1) some refl)

  -- a prefix of it was written
  pub has_begun : TakesPrefix a.contents b.contents text → HasBegun t s a b
  has_begun begun = (text, is_due counted.refusal refl, begun)

  -- its writing stopped
  pub Answers-telling : (refusal : Refusal) (fault : Fault) → fault ≡ record { refusal = refusal; line = None } → Tells {A = Unit {0}} a b text [] (Err refusal) → Answers t s a b same (Err fault)
  Answers-telling refusal fault is tells = subst (λ (f : Fault). Answers t s a b same (Err f)) (sym is) (by refusal tells.cause)
    where
      by : (r : Refusal) → StopsTelling r a b → Answers t s a b same (Err (record { refusal = r; line = None }))
      by Memory same_failures = record {
        ok = tt;
        quiet = tt;
        fault = tt;
        refused = tt;
        stopped = tt;
        none_failed_there = tt;
        memory = λ memory. inr (has_begun tells.prefix);
        none_failed = λ memory. same_failures;
        write = λ write. absurd cc;
      }
      by Write gave = record {
        ok = tt;
        quiet = tt;
        fault = tt;
        refused = tt;
        stopped = tt;
        none_failed_there = tt;
        memory = λ memory. absurd cc;
        none_failed = λ memory. absurd cc;
        write = λ write. (has_begun tells.prefix, gave);
      }
      by _ none = absurd none

  -- it was written
  pub Answers-counted : (result : Result (Unit {0}) Fault) → EndsAsCounted s counted result → Sends a.contents b.contents text [] → b.failures ≡ a.failures → Answers t s a b same result
  Answers-counted (Ok done) ends sends quiet = record {
    ok = (text, is_whole ends.whole, Appends-Sends a.contents b.contents text sends);
    quiet = quiet;
    fault = tt;
    refused = tt;
    stopped = tt;
    none_failed_there = tt;
    memory = tt;
    none_failed = tt;
    write = tt;
  }
  Answers-counted (Err fault) ends sends quiet =
      let at = header_lines s.version + counted.made + 1 in
      let stop = is_stop fault.refusal at ends.refusal refl in
      record {
        ok = tt;
        quiet = tt;
        fault = tracing_fault fault.refusal fault.line ends.kind;
        refused = told_at _ at fault.line ends.line stop.stop;
        stopped = told_at _ at fault.line ends.line (text, stop, Appends-Sends a.contents b.contents text sends);
        none_failed_there = if_some (b.failures ≡ a.failures) fault.line quiet;
        memory = λ memory. inr (has_begun ([], sends));
        none_failed = λ memory. quiet;
        write = λ write. absurd (not_write fault.refusal (is_refused s counted count fault.refusal ends.refusal) write);
      }
