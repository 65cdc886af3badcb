-- What placing the text of a recorded history reads, answers and writes.
use Rattle.std.specs.Prelude.{ℕ, Bool, List, [], Option}
use Rattle.std.specs.Io.KnownBytes.{Appends}
use Rattle.text_io.specs.Devices.{SinkState}
use Rattle.text_io.specs.Blocks.{TakesPrefix}
use Rattle.history.specs.declared.operations.Stamped.{Stamped}
use Rattle.placing.specs.declared.answers.Placed.{Placed}
use Rattle.placing.specs.declared.answers.Placed.TheVariants.{History, Impossible, Open}
use Rattle.waiting_orders.specs.Waiting.{IsOfQueue}
use Rattle.placing.specs.Answers.{IsAnswer, HasCause}
use Rattle.place_engine.specs.WhyTexts.{answer_text}
use Rattle.place_engine.specs.Given.{IsRecordOf}

-- what an answer says of a recorded history: that it is one of a queue, that it isn't, or neither
abbrev pub SaysOf : List Stamped → Placed → Type 0
SaysOf ops (History new) = IsOfQueue ops
SaysOf ops (Impossible reason) = IsOfQueue ops → ⊥
SaysOf ops (Open cause) = Unit {0}

-- known bytes were the text of a recorded history or of a recording, the answer is one of it, by a search whose states
-- take at most so many bytes, and says what is so, and the text that tells it was written, with the lines of a reason's operations where
-- they were asked for
pub record TellsPlaces (given : Option (List ℕ)) (room : ℕ) (why : Bool) (old new : SinkState) (answer : Placed) : Type 0 where
  pub text : List ℕ
  pub operations : List Stamped
  pub history : IsRecordOf given text operations
  pub answers : IsAnswer operations answer
  pub cause : HasCause operations room answer
  pub right : SaysOf operations answer
  pub written : Appends old.contents new.contents (answer_text [] why text answer)

-- known bytes were the text of a recorded history or of a recording, and a prefix of the text that tells an answer of
-- it was written, by a search whose states take at most so many bytes
pub record BeginsPlaces (given : Option (List ℕ)) (room : ℕ) (why : Bool) (old new : SinkState) : Type 0 where
  pub text : List ℕ
  pub operations : List Stamped
  pub answer : Placed
  pub history : IsRecordOf given text operations
  pub answers : IsAnswer operations answer
  pub cause : HasCause operations room answer
  pub begun : TakesPrefix old.contents new.contents (answer_text [] why text answer)
