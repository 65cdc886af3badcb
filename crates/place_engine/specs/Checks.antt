-- What judging the text of a history reads, answers and writes, and what it may be refused.
use Rattle.std.specs.Prelude.{◌≡◌, ◌↔◌, ℕ, List, ◌++◌, Option, Some, None, ⊤, codes, decimal}
use Rattle.std.specs.Io.KnownBytes.{Appends}
use Rattle.text_io.specs.Devices.{SinkState}
use Rattle.text_io.specs.Blocks.{TakesPrefix}
use Rattle.history.specs.History.{Placement, IsLegal, verdict}
use Rattle.history_text.specs.HistoryLines.{IsHistoryInRange, IsFirstFaultOfHistory}
use Rattle.history_text.specs.HistoryText.{history_text}
use Rattle.history.specs.declared.operations.Cause.{Cause}
use Rattle.history.specs.declared.operations.Cause.TheVariants.{Shape, Span, Shared, Reply}
use Rattle.history.specs.declared.operations.Stamped.{Stamped}
use Rattle.history.specs.declared.operations.Verdict.{Verdict}
use Rattle.history.specs.declared.operations.Verdict.TheVariants.{Yes, No}
use Rattle.history.specs.declared.refusals.Refusal.{Refusal}
use Rattle.history.specs.declared.refusals.Refusal.TheVariants.{Text}
use Rattle.report.specs.HistoryTable.{history_table_text}
use Rattle.text_io.specs.Readings.{WereAll}

-- the name of what is wrong with an operation
abbrev pub cause_name : Cause → List ℕ
cause_name Shape = codes "Shape"
cause_name Span = codes "Span"
cause_name Shared = codes "Shared"
cause_name Reply = codes "Reply"

-- the line that tells a no: the operation's place in the list, and what is wrong with it
unfoldable pub no_text : ℕ → Cause → List ℕ
no_text place cause = codes "no " ++ decimal place ++ codes " " ++ cause_name cause ++ codes "\n"

-- the text that tells a verdict on a history: at yes its table, at no one line
abbrev pub verdict_text : List Stamped → Verdict → List ℕ
verdict_text ops Yes = history_table_text ops
verdict_text ops (No place cause) = no_text place cause

-- known bytes were the text of these operations, which are in range
pub record IsTextOf (given : Option (List ℕ)) (operations : List Stamped) : Type 0 where
  pub in_range : IsHistoryInRange operations
  pub read : WereAll given (history_text operations)

-- known bytes were the text of a history, the answer is the verdict on it, which is yes exactly where it is well placed
-- and legal, and the text that tells this verdict was written
pub record TellsVerdict (given : Option (List ℕ)) (old new : SinkState) (answer : Verdict) : Type 0 where
  pub operations : List Stamped
  pub history : IsTextOf given operations
  pub judged : answer ≡ verdict operations
  pub yes : (answer ≡ Yes) ↔ (Placement operations × IsLegal operations)
  pub written : Appends old.contents new.contents (verdict_text operations answer)

-- known bytes were the text of a history, and a prefix of the text that tells the verdict on it was written
pub record BeginsVerdict (given : Option (List ℕ)) (old new : SinkState) : Type 0 where
  pub operations : List Stamped
  pub history : IsTextOf given operations
  pub begun : TakesPrefix old.contents new.contents (verdict_text operations (verdict operations))

-- where known bytes are refused as a text, that is their first faulty line as a history, and what is wrong with it
abbrev pub TellsFirstFault : (given : Option (List ℕ)) → Refusal → Type 0
TellsFirstFault None refusal = ⊤
TellsFirstFault (Some text) (Text number cause) = IsFirstFaultOfHistory text (Text number cause)
TellsFirstFault (Some text) _ = ⊤
