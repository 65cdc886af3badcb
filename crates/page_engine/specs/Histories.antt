-- What is written of a page around the text of a recorded history.
use Rattle.std.specs.Prelude.{◌≡◌, ℕ, true, List, [], ◌++◌, Option}
use Rattle.std.specs.Io.KnownBytes.{Appends}
use Rattle.history.specs.declared.operations.Stamped.{Stamped}
use Rattle.text_io.specs.Blocks.{TakesPrefix}
use Rattle.text_io.specs.Devices.{SinkState}
use Rattle.placing.specs.declared.answers.Placed.{Placed}
use Rattle.placing.specs.Answers.{IsAnswer, HasCause}
use Rattle.place_engine.specs.Places.{SaysOf}
use Rattle.place_engine.specs.WhyTexts.{answer_text}
use Rattle.place_engine.specs.Given.{IsRecordOf}
use Rattle.page_engine.specs.Pages.{page_around}
use Rattle.page_engine.specs.declared.engine.Frame.{Frame}

-- bytes are a text of this recorded history, and behind it the text that tells an answer to it, by a search whose states take at most so
-- many bytes, which says what is so, with the lines of a reason's operations
pub record IsFoundOf (text : List ℕ) (operations : List Stamped) (room : ℕ) (bytes : List ℕ) : Type 0 where
  pub answer : Placed
  pub answers : IsAnswer operations answer
  pub cause : HasCause operations room answer
  pub right : SaysOf operations answer
  pub told : bytes ≡ text ++ answer_text [] true text answer

-- known bytes were the text of a recorded history or of a recording, and the page around it and what is found of it was written
pub record WritesHistoryPage (frame : Frame) (given : Option (List ℕ)) (room : ℕ) (old new : SinkState) : Type 0 where
  pub text : List ℕ
  pub operations : List Stamped
  pub bytes : List ℕ
  pub history : IsRecordOf given text operations
  pub found : IsFoundOf text operations room bytes
  pub written : Appends old.contents new.contents (page_around frame bytes)

-- known bytes were the text of a recorded history or of a recording, and a prefix of the page around it and what is found of it was
-- written
pub record BeginsHistoryPage (frame : Frame) (given : Option (List ℕ)) (room : ℕ) (old new : SinkState) : Type 0 where
  pub text : List ℕ
  pub operations : List Stamped
  pub bytes : List ℕ
  pub history : IsRecordOf given text operations
  pub found : IsFoundOf text operations room bytes
  pub begun : TakesPrefix old.contents new.contents (page_around frame bytes)
