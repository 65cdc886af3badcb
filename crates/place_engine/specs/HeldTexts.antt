-- Placing a recording of a queue that holds texts at the start: what is read, answered and written, and what that says.
use Rattle.std.specs.Prelude.{◌≡◌, ◌⊎◌, ℕ, Bool, false, List, Option, Some, None, All, length, map, ⊤}
use Rattle.std.specs.Io.KnownBytes.{Appends}
use Rattle.text_io.specs.Devices.{SinkState}
use Rattle.text_io.specs.Blocks.{TakesPrefix}
use Rattle.text_io.specs.Readings.{WereAll}
use Rattle.history.specs.declared.operations.Stamped.{Stamped}
use Rattle.history.specs.declared.refusals.Refusal.{Refusal}
use Rattle.history.specs.declared.refusals.Refusal.TheVariants.{Text}
use Rattle.history.specs.Queue.{Queue}
use Rattle.history.specs.History.{Placement, IsSequentialRun, by_point}
use Rattle.placing.specs.declared.answers.Placed.{Placed}
use Rattle.placing.specs.declared.answers.Placed.TheVariants.{History, Impossible, Open}
use Rattle.placing.specs.Answers.{IsAnswer, HasCause}
use Rattle.placing.specs.SpreadStamps.{IsSpread}
use Rattle.recording_text.specs.Recordings.{Recorded}
use Rattle.recording_text.specs.RecordingLines.{recording_text, IsRecordingInRange, HasFirstFault}
use Rattle.recording_text.specs.Numbers.{known_in, value_by, stamped_by, history_of}
use Rattle.recording_text.specs.HeldTexts.{holding, longer, IsLinearizableFrom, IsBeyond}
use Rattle.place_engine.specs.OfTexts.{IsRecordedCall}
use Rattle.place_engine.specs.GivenParts.{given_part}
use Rattle.place_engine.specs.WhyTexts.{answer_text}

-- a recording is one of a queue that holds these texts at the start: its operations are calls, and it is linearizable from there
pub record IsOfHoldingQueue (held : List (List ℕ)) (rs : List Recorded) : Type 0 where
  pub calls : All IsRecordedCall rs
  pub linearizable : IsLinearizableFrom (holding held) rs

-- the operations of a recording, with the numbers that their texts have in its longer one
abbrev pub numbered : (held : List (List ℕ)) → List Recorded → List Stamped
numbered held rs = map (stamped_by (known_in (longer held rs))) rs

-- the queue that holds these texts, by the same numbers
abbrev pub held_queue : (held : List (List ℕ)) → List Recorded → Queue
held_queue held rs = record { values = map (value_by (known_in (longer held rs))) held; shut = false }

-- A history has linearization points by which a recording is one of a queue that holds these texts: it is that of the recording
-- but for points and for stamps that are as they were or spread, each point lies within its operation, no two are the same, and
-- by rising points the queue that holds them gives the replies.
pub record HasPointsFrom (held : List (List ℕ)) (rs : List Recorded) (given : List Stamped) : Type 0 where
  pub spread : IsSpread (numbered held rs) given
  pub placed : Placement given
  pub runs : IsSequentialRun (held_queue held rs) (by_point given)

-- what an answer says of a recording of a queue that holds these texts: that it is one, by the points that are told, that it isn't,
-- or neither
abbrev pub SaysOfHolding : (held : List (List ℕ)) → List Recorded → Placed → Type 0
SaysOfHolding held rs (History new) = IsOfHoldingQueue held rs × HasPointsFrom held rs (given_part (length held) new.items)
SaysOfHolding held rs (Impossible reason) = IsOfHoldingQueue held rs → ⊥
SaysOfHolding held rs (Open cause) = Unit {0}

-- a text is that of a recording, and the answer is one of its longer one, by a search whose states take at most so many bytes
pub record FindsHolding (held : List (List ℕ)) (text : List ℕ) (room : ℕ) (answer : Placed) : Type 0 where
  pub recording : List Recorded
  pub in_range : IsRecordingInRange recording
  pub spelled : text ≡ recording_text recording
  pub answers : IsAnswer (history_of (longer held recording)) answer
  pub cause : HasCause (history_of (longer held recording)) room answer

-- known bytes were the text of a recording, an answer is found that says what is so, and the text that tells it was written, with
-- the lines of a reason's operations where they were asked for
pub record TellsHolding (held : List (List ℕ)) (given : Option (List ℕ)) (room : ℕ) (why : Bool) (old new : SinkState) (answer : Placed) : Type 0 where
  pub text : List ℕ
  pub read : WereAll given text
  pub found : FindsHolding held text room answer
  pub right : SaysOfHolding held found.recording answer
  pub written : Appends old.contents new.contents (answer_text held why text answer)

-- known bytes were the text of a recording, an answer is found, and a prefix of the text that tells it was written
pub record BeginsHolding (held : List (List ℕ)) (given : Option (List ℕ)) (room : ℕ) (why : Bool) (old new : SinkState) : Type 0 where
  pub text : List ℕ
  pub answer : Placed
  pub read : WereAll given text
  pub found : FindsHolding held text room answer
  pub begun : TakesPrefix old.contents new.contents (answer_text held why text answer)

-- where known bytes are refused as a recording of a queue that holds so many texts, that is their first faulty line, or the first
-- whose numbers leave no room for the pushes
abbrev pub TellsFaultOfHolding : ℕ → (given : Option (List ℕ)) → Refusal → Type 0
TellsFaultOfHolding count None refusal = ⊤
TellsFaultOfHolding count (Some text) (Text number cause) = HasFirstFault text number cause ⊎ IsBeyond count text number cause
TellsFaultOfHolding count (Some text) _ = ⊤
