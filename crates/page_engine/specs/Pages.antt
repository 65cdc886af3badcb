-- What is written of a page.
use Rattle.std.specs.Prelude.{◌≡◌, ◌≢◌, ℕ, ◌+◌, ◌⊎◌, List, ◌++◌, Option, Some, None, Result, OnOk, IfErr, IfSome}
use Rattle.std.specs.Io.KnownBytes.{Appends}
use Rattle.engine_faults.specs.declared.faults.Fault.{Fault}
use Rattle.history.specs.declared.refusals.Refusal.{Refusal}
use Rattle.history.specs.declared.refusals.Refusal.TheVariants.{Write}
use Rattle.page_engine.specs.declared.engine.Frame.{Frame}
use Rattle.page_engine.specs.declared.given.Given.{Given}
use Rattle.page_engine.specs.declared.given.Stop.{Stop}
use Rattle.schedule_text.specs.Schedules.{header_lines}
use Rattle.schedule_text.specs.Texts.{schedule_text}
use Rattle.text_io.specs.Blocks.{GivesUp, TakesPrefix}
use Rattle.text_io.specs.Devices.{SinkState}
use Rattle.run_engine.specs.Answers.{IsWholeOf, OfSchedule}
use Rattle.expand_engine.specs.RecipesRun.{IsTellingFault}
use Rattle.page_engine.specs.Followed.{IsStopTold, the_followed}
use Rattle.page_engine.specs.Given.{page_content}

-- a content between what a page has before it and behind it
abbrev pub page_around : Frame → List ℕ → List ℕ
page_around frame content = (frame.before.now ++ content) ++ frame.after.now

-- the page of a text that was given, of whose run this is told
abbrev pub page_of : Frame → (given told : List ℕ) → List ℕ
page_of frame given told = page_around frame (page_content frame given told)

-- a page that tells this of a text was written
abbrev pub HasPaged : Frame → (given : List ℕ) → (List ℕ → Type 0) → (old new : SinkState) → Type 0
HasPaged frame given tells old new = (told : List ℕ) × tells told × Appends old.contents new.contents (page_of frame given told)

-- it is told of a whole run, or up to what is refused in some line
abbrev pub IsEither : (whole : List ℕ → Type 0) → (stopped : ℕ → Refusal → List ℕ → Type 0) → (told : List ℕ) → Type 0
IsEither whole stopped told = whole told ⊎ ((line : ℕ) × (refusal : Refusal) × stopped line refusal told)

-- a prefix of one of these pages was written
abbrev pub HasBegunPage : Frame → (given : List ℕ) → (whole : List ℕ → Type 0) → (stopped : ℕ → Refusal → List ℕ → Type 0) → (old new : SinkState) → Type 0
HasBegunPage frame given whole stopped old new =
    (told : List ℕ) × IsEither whole stopped told × TakesPrefix old.contents new.contents (page_of frame given told)

-- a page is written of a text, of its whole run, or up to what is refused in some line; or a fault without a line says why it isn't
pub record Pages (frame : Frame) (given : List ℕ) (whole : List ℕ → Type 0) (stopped : ℕ → Refusal → List ℕ → Type 0) (old new : SinkState) (same : Type 0) (result : Result (Unit {0}) Fault) : Type 0 where
  pub ok : OnOk result (HasPaged frame given whole old new)
  pub quiet : OnOk result (new.failures ≡ old.failures)
  pub prefix : IfErr result (λ fault. fault.refusal ≡ Write → HasBegunPage frame given whole stopped old new)
  pub write : IfErr result (λ fault. fault.refusal ≡ Write → GivesUp old new)
  pub unwritten : IfErr result (λ fault. fault.line ≡ None → fault.refusal ≢ Write → same)
  pub stopped_at : IfErr result (λ fault. IfSome fault.line (λ line. HasPaged frame given (stopped line fault.refusal) old new))
  pub none_failed_there : IfErr result (λ fault. IfSome fault.line (λ line. new.failures ≡ old.failures))
  pub fault : IfErr result (λ fault. IsTellingFault fault.refusal fault.line)

-- this is told of what was given, of which nothing is refused
abbrev pub IsWholeTold : Given → List ℕ → Type 0
IsWholeTold given told = (given.stop ≡ None) × IsWholeOf the_followed given.schedule told

-- this is told of what was given, up to what is refused in this line
pub record IsStoppedTold (given : Given) (line : ℕ) (refusal : Refusal) (told : List ℕ) : Type 0 where
  pub stop : Stop
  pub is : given.stop ≡ Some stop
  pub here : line ≡ stop.line
  pub cause : refusal ≡ stop.refusal
  pub tells : IsStopTold given.schedule (header_lines given.schedule.version + given.extent.made + 1) line refusal told

-- known bytes were the text of a schedule, and its page was written
abbrev pub WritesPage : Frame → (given : Option (List ℕ)) → (old new : SinkState) → Type 0
WritesPage frame given old new = OfSchedule given (λ s. HasPaged frame (schedule_text s) (IsWholeOf the_followed s) old new)

-- known bytes were the text of a schedule, and its page up to the event in this line, which is refused, was written
abbrev pub WritesStoppedPage : Frame → (given : Option (List ℕ)) → (line : ℕ) → Refusal → (old new : SinkState) → Type 0
WritesStoppedPage frame given line refusal old new =
    OfSchedule given (λ s. HasPaged frame (schedule_text s) (IsStopTold s line line refusal) old new)

-- known bytes were the text of a schedule, and a prefix of its page was written
abbrev pub BeginsPage : Frame → (given : Option (List ℕ)) → (old new : SinkState) → Type 0
BeginsPage frame given old new =
    OfSchedule given (λ s. HasBegunPage frame (schedule_text s) (IsWholeOf the_followed s) (λ line. IsStopTold s line line) old new)
