-- What is written of a picture.
use Rattle.std.specs.Prelude.{◌≡◌, ℕ, Bool, nat_eq, List, Option}
use Rattle.std.specs.List.{list_any}
use Rattle.std.specs.List.Sorted.{IsNonDecreasing}
use Rattle.history.specs.declared.operations.Stamped.{Stamped}
use Rattle.schedule_text.specs.Schedules.{Schedule}
use Rattle.text_io.specs.Devices.{SinkState}
use Rattle.run_engine.specs.Answers.{HasWritten, OfSchedule, RunText}
use Rattle.run_engine.specs.Extents.{IsExtentOf}
use Rattle.show_engine.specs.declared.counts.Counted.{Counted}
use Rattle.show_engine.specs.declared.frames.View.{View}
use Rattle.show_engine.specs.Pictures.{picture_text, stopped_text, takes_effect}

-- whether a number is one of these
abbrev pub is_among : List ℕ → (number : ℕ) → Bool
is_among numbers number = list_any (λ at. nat_eq at number) numbers

-- these are the numbers at which operations take effect, by rising number
pub record AreEffects (ops : List Stamped) (numbers : List ℕ) : Type 0 where
  pub rising : IsNonDecreasing numbers
  pub each : (number : ℕ) → is_among numbers number ≡ takes_effect ops number

-- how far a schedule's events can be made, and the numbers at which operations of the world that these lead to take effect
pub record IsCountOf (s : Schedule) (counted : Counted) : Type 0 where
  pub run : IsExtentOf s counted.run
  pub effects : AreEffects run.world.operations counted.effects.items

-- the picture of a run in a view
abbrev pub the_picture : View → RunText
the_picture view = record { whole = picture_text view; stopped = stopped_text view }

-- known bytes were the text of a schedule, and its picture was written
abbrev pub WritesPicture : View → (given : Option (List ℕ)) → (old new : SinkState) → Type 0
WritesPicture view given old new = OfSchedule given (λ s. HasWritten (the_picture view) s old new)
