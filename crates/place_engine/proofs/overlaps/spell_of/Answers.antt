-- What is read of a line is the operation that it says.
use Rattle.std.proofs.Common.{refl, sym}
use Rattle.recording_text.specs.RecordingReading.{said_of}
use Rattle.place_engine.proofs.Overlapping.{pending_told, says_none}
use Rattle.place_engine.proofs.overlaps.spell_of.Goals as goal

pub returns-in-Ok : goal.returns-in-Ok
returns-in-Ok c =
    let read = c.in-Ok.read in
    record {
      operation = said_of read;
      said = c.in-Ok.ensures.0;
      in_range = c.in-Ok.ensures.1;
      name = refl;
      first = refl;
      pending = pending_told read.last c.is_none.result c.is_none.ensures;
      last = sym c.unwrap_or.ensures;
      line = refl;
    }

pub returns-in-Err : goal.returns-in-Err
returns-in-Err c = says_none c.args.line.now _ c.in-Err.ensures
