-- What is written of the recipe that was read, and why it stops.
use Rattle.std.specs.Prelude.{◌≡◌, ◌⊎◌, ℕ, List, Option, Some, None, Result, OnOk, IfErr, IfSome}
use Rattle.std.specs.Io.KnownBytes.{Appends}
use Rattle.engine_faults.specs.declared.faults.Fault.{Fault}
use Rattle.history.specs.declared.operations.Stamped.{Stamped}
use Rattle.history.specs.declared.refusals.Refusal.{Refusal}
use Rattle.history.specs.declared.refusals.Refusal.TheVariants.{Memory, Write}
use Rattle.history_text.specs.HistoryText.{history_text}
use Rattle.run_engine.specs.Answers.{HasBegun, HasStopped, HasWritten, IsTracingRefusal, RunText}
use Rattle.schedule_text.specs.declared.schedules.Event.{Event}
use Rattle.step_machine.specs.Machine.{World}
use Rattle.text_io.specs.Blocks.{GivesUp, TakesPrefix}
use Rattle.text_io.specs.Devices.{SinkState}
use Rattle.text_io.specs.Readings.{WereAll}
use Rattle.expand_engine.specs.Expansions.{ActsLead, IsActFault, IsReadAs, RefusesAt, opening_with}
use Rattle.expand_engine.specs.Recipes.{IsRecipe}
use Rattle.expand_engine.specs.UnrolledActs.{unrolled}
use Rattle.expand_engine.specs.declared.acts.Stop.{Stop}
use Rattle.expand_engine.specs.declared.expansions.Expansion.{Expansion}
use Rattle.expand_engine.specs.declared.recipes.Act.{Act}
use Rattle.expand_engine.specs.declared.recipes.Said.{Said}
use Rattle.expand_engine.specs.declared.recipes.Sizes.{Sizes}

-- acts lead from the opening world of these sizes to one with these operations
pub record IsRunOfActs (sizes : Sizes) (acts : List Act) (operations : List Stamped) : Type 0 where
  pub events : List Event
  pub world : World
  pub led : ActsLead (opening_with sizes) acts events world
  pub told : operations ≡ world.operations

-- those of the lines of a recipe do
abbrev pub IsRunOfLines : Sizes → List Said → List Stamped → Type 0
IsRunOfLines sizes saids operations = IsRunOfActs sizes (unrolled 1 None saids) operations

-- the acts of the lines of a recipe are refused at the one on this line, if at one
abbrev pub RefusesLinesAt : Sizes → List Said → (line : Option ℕ) → Refusal → Type 0
RefusesLinesAt sizes saids line refusal = RefusesAt sizes (unrolled 1 None saids) line refusal

-- known bytes were the text of a recipe, whose acts lead to a world with these operations
pub record IsRunOfRecipe (given : Option (List ℕ)) (operations : List Stamped) : Type 0 where
  pub text : List ℕ
  pub read : WereAll given text
  pub sizes : Sizes
  pub saids : List Said
  pub recipe : IsRecipe text sizes saids
  pub run : IsRunOfLines sizes saids operations

-- the text of that history was written
pub record WritesHistory (given : Option (List ℕ)) (old new : SinkState) : Type 0 where
  pub operations : List Stamped
  pub run : IsRunOfRecipe given operations
  pub written : Appends old.contents new.contents (history_text operations)

-- a prefix of it was written
pub record BeginsHistory (given : Option (List ℕ)) (old new : SinkState) : Type 0 where
  pub operations : List Stamped
  pub run : IsRunOfRecipe given operations
  pub begun : TakesPrefix old.contents new.contents (history_text operations)

-- no act is refused, and what is due of what the acts stand for was written
pub record HasWrittenAll (t : RunText) (e : Expansion) (old new : SinkState) : Type 0 where
  pub whole : e.stop ≡ None
  pub written : HasWritten t e.schedule old new

-- the act on this line is refused for this cause, and what is due up to that was written
pub record HasStoppedAt (t : RunText) (e : Expansion) (line : ℕ) (refusal : Refusal) (old new : SinkState) : Type 0 where
  pub stop : Stop
  pub is : e.stop ≡ Some stop
  pub here : line ≡ stop.act.line
  pub cause : refusal ≡ stop.refusal
  pub at : ℕ
  pub written : HasStopped t e.schedule at refusal old new

-- it is refused as a whole, or comes with the line of an act that is refused
abbrev pub IsTellingFault : Refusal → Option ℕ → Type 0
IsTellingFault refusal None = IsTracingRefusal refusal
IsTellingFault refusal (Some line) = IsActFault refusal line

-- an engine answers so of an expansion, as it does of a schedule, but that an act is refused by its line
pub record AnswersOf (t : RunText) (e : Expansion) (old new : SinkState) (same : Type 0) (result : Result (Unit {0}) Fault) : Type 0 where
  pub ok : OnOk result (HasWrittenAll t e old new)
  pub quiet : OnOk result (new.failures ≡ old.failures)
  pub fault : IfErr result (λ fault. IsTellingFault fault.refusal fault.line)
  pub stopped : IfErr result (λ fault. IfSome fault.line (λ line. HasStoppedAt t e line fault.refusal old new))
  pub none_failed_there : IfErr result (λ fault. IfSome fault.line (λ line. new.failures ≡ old.failures))
  pub memory : IfErr result (λ fault. fault.refusal ≡ Memory → same ⊎ HasBegun t e.schedule old new)
  pub none_failed : IfErr result (λ fault. fault.refusal ≡ Memory → new.failures ≡ old.failures)
  pub write : IfErr result (λ fault. fault.refusal ≡ Write → HasBegun t e.schedule old new × GivesUp old new)

-- known bytes were the text of a recipe that stands for something of which this holds
pub record OfRecipe (given : Option (List ℕ)) (P : Expansion → Type 0) : Type 0 where
  pub expansion : Expansion
  pub read : IsReadAs given expansion
  pub holds : P expansion

-- known bytes were the text of a recipe, no act of which is refused, and what is due of it was written
abbrev pub WritesOf : RunText → (given : Option (List ℕ)) → (old new : SinkState) → Type 0
WritesOf t given old new = OfRecipe given (λ e. HasWrittenAll t e old new)

-- what is due up to the act on this line, which is refused, was written
abbrev pub StopsOf : RunText → (given : Option (List ℕ)) → (line : ℕ) → Refusal → (old new : SinkState) → Type 0
StopsOf t given line refusal old new = OfRecipe given (λ e. HasStoppedAt t e line refusal old new)

-- a prefix of what is due was written
abbrev pub BeginsOf : RunText → (given : Option (List ℕ)) → (old new : SinkState) → Type 0
BeginsOf t given old new = OfRecipe given (λ e. HasBegun t e.schedule old new)
