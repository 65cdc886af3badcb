-- Exit statuses, and the line that tells of a fault.
use Rattle.std.specs.Prelude.{◌≡◌, ◌⊎◌, ℕ, List, Result, Ok, Err}
use Rattle.std.specs.Io.KnownBytes.{Appends}
use Rattle.text_io.specs.Devices.{SinkState}
use Rattle.text_io.specs.Blocks.{TakesPrefix, GivesUp}
use Rattle.text_io.specs.Lines.{HasNo, line}
use Rattle.history.specs.declared.operations.Verdict.{Verdict}
use Rattle.history.specs.declared.operations.Verdict.TheVariants.{Yes, No}
use Rattle.engine_faults.specs.declared.faults.Fault.{Fault}
use Rattle.engine_faults.specs.declared.endings.Ending.{Ending}
use Rattle.engine_faults.specs.declared.endings.Ending.TheVariants.{Well, No as Wrong, Open}

-- how the judging of a history ended, by the verdict
abbrev pub ending_of : Verdict → Ending
ending_of Yes = Well
ending_of (No place cause) = Wrong

-- the exit status: 0 where all is well, 3 where a history isn't one of a queue, 4 where that is open, 1 where there is a fault
abbrev pub status_of : Result Ending Fault → ℕ
status_of (Ok Well) = 0
status_of (Ok Wrong) = 3
status_of (Ok Open) = 4
status_of (Err fault) = 1

-- a sink took one line, whose one line feed is its last byte, and no call failed, or it gave up within it
abbrev pub TakesLine : (old new : SinkState) → Type 0
TakesLine old new =
    (text : List ℕ) × HasNo 10 text × ((Appends old.contents new.contents (line text) × (new.failures ≡ old.failures))
    ⊎ (TakesPrefix old.contents new.contents (line text) × GivesUp old new))
