-- What is written of a timeline.
use Rattle.std.specs.Prelude.{ℕ, List, Option}
use Rattle.std.specs.Io.KnownBytes.{Appends}
use Rattle.history.specs.declared.operations.Stamped.{Stamped}
use Rattle.text_io.specs.Blocks.{TakesPrefix}
use Rattle.text_io.specs.Devices.{SinkState}
use Rattle.place_engine.specs.Checks.{IsTextOf}
use Rattle.show_engine.specs.declared.frames.View.{View}
use Rattle.show_engine.specs.Timelines.{timeline_text}

-- known bytes were the text of a history, and its timeline was written
pub record WritesTimeline (view : View) (given : Option (List ℕ)) (old new : SinkState) : Type 0 where
  pub operations : List Stamped
  pub read : IsTextOf given operations
  pub written : Appends old.contents new.contents (timeline_text view operations)

-- known bytes were the text of a history, and a prefix of its timeline was written
pub record BeginsTimeline (view : View) (given : Option (List ℕ)) (old new : SinkState) : Type 0 where
  pub operations : List Stamped
  pub read : IsTextOf given operations
  pub begun : TakesPrefix old.contents new.contents (timeline_text view operations)
