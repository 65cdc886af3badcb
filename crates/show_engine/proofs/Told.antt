-- What is begun of a timeline.
use Rattle.std.proofs.Common.{◌≡◌, ℕ, List, Option, Result, Ok, Err, OnErr, IfErr}
use Rattle.history.specs.declared.operations.Stamped.{Stamped}
use Rattle.history.specs.declared.refusals.Refusal.{Refusal}
use Rattle.history.specs.declared.refusals.Refusal.TheVariants.{Write}
use Rattle.place_engine.specs.Checks.{IsTextOf}
use Rattle.text_io.specs.Blocks.{TakesPrefix}
use Rattle.text_io.specs.Devices.{SinkState}
use Rattle.show_engine.specs.declared.frames.View.{View}
use Rattle.show_engine.specs.Timelines.{timeline_text}
use Rattle.show_engine.specs.TimelinesWritten.{BeginsTimeline}

-- where writing fails, a prefix of the timeline of what was read was written
pub begins_timeline : {A : Type 0} (view : View) (given : Option (List ℕ)) (ops : List Stamped) (a b : SinkState) (result : Result A Refusal) → IsTextOf given ops
    → OnErr result (TakesPrefix a.contents b.contents (timeline_text view ops)) → IfErr result (λ refusal. refusal ≡ Write → BeginsTimeline view given a b)
begins_timeline view given ops a b (Ok done) read begun = tt
begins_timeline view given ops a b (Err refusal) read begun = λ write. record { operations = ops; read = read; begun = begun }
