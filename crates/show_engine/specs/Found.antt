-- What is written of what is found of a recorded history.
use Rattle.std.specs.Prelude.{◌≡◌, ℕ, List, Option}
use Rattle.std.specs.List.Sorted.{IsNonDecreasing}
use Rattle.std.specs.Io.KnownBytes.{Appends}
use Rattle.history.specs.declared.operations.Stamped.{Stamped}
use Rattle.placing.specs.declared.answers.Placed.{Placed}
use Rattle.placing.specs.Answers.{IsAnswer, HasCause}
use Rattle.place_engine.specs.Places.{SaysOf}
use Rattle.place_engine.specs.Given.{IsRecordOf}
use Rattle.text_io.specs.Blocks.{TakesPrefix}
use Rattle.text_io.specs.Devices.{SinkState}
use Rattle.show_engine.specs.declared.frames.View.{View}
use Rattle.show_engine.specs.Reasons.{found_picture}
use Rattle.show_engine.specs.PicturesWritten.{is_among}

-- these are the same numbers, by rising number
pub record AreRising (numbers rising : List ℕ) : Type 0 where
  pub order : IsNonDecreasing rising
  pub same : (number : ℕ) → is_among rising number ≡ is_among numbers number

-- known bytes were the text of a recorded history or of a recording, an answer of it, by a search whose states take at most so many bytes, says
-- what is so, and the picture of it was written
pub record DrawsFound (view : View) (given : Option (List ℕ)) (room : ℕ) (old new : SinkState) : Type 0 where
  pub text : List ℕ
  pub operations : List Stamped
  pub answer : Placed
  pub history : IsRecordOf given text operations
  pub answers : IsAnswer operations answer
  pub cause : HasCause operations room answer
  pub right : SaysOf operations answer
  pub written : Appends old.contents new.contents (found_picture view text operations answer)

-- known bytes were the text of a recorded history or of a recording, and a prefix of the picture of an answer of it was written, by
-- a search whose states take at most so many bytes
pub record BeginsFound (view : View) (given : Option (List ℕ)) (room : ℕ) (old new : SinkState) : Type 0 where
  pub text : List ℕ
  pub operations : List Stamped
  pub answer : Placed
  pub history : IsRecordOf given text operations
  pub answers : IsAnswer operations answer
  pub cause : HasCause operations room answer
  pub begun : TakesPrefix old.contents new.contents (found_picture view text operations answer)
