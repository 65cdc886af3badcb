-- What the reader of a schedule's lines answers, one line after another.
use Rattle.std.specs.Prelude.{◌≡◌, ℕ, ◌+◌, List, Option, None, Some, ⊤, true}
use Rattle.std.specs.Io.KnownBytes.{Consumes}
use Rattle.history.specs.declared.refusals.Refusal.{Refusal}
use Rattle.history.specs.declared.refusals.Refusal.TheVariants.{Text, Read}
use Rattle.history.specs.declared.text_causes.TextCause.{TextCause}
use Rattle.history.specs.declared.text_causes.TextCause.TheVariants.{End}
use Rattle.text_io.specs.Grammars.{AreDue, lines_of, IsFault, IsFirstFault}
use Rattle.text_io.specs.Lines.{line, spaced}
use Rattle.schedule_text.specs.Texts.{Said, Due, bits_of, said_words, IsSaidInRange, MaySay, schedule_lines}
use Rattle.text_io.specs.Devices.{SourceState}

-- known bytes are wrong for this cause, where such a line is due
abbrev pub IsFaultOf : Due → Option (List ℕ) → TextCause → Type 0
IsFaultOf due None cause = ⊤
IsFaultOf due (Some rest) cause = IsFault schedule_lines due rest cause

-- a line was given that is due, and says this in range
pub record GaveSaid (due : Due) (said : Said) (old new : SourceState) : Type 0 where
  pub may : MaySay due said
  pub range : IsSaidInRange (bits_of due) said
  pub given : Consumes old.left new.left (line (spaced (said_words said)))
  pub quiet : new.failures ≡ old.failures

-- known bytes that stand behind so many lines have this first faulty line
abbrev pub IsFirstFaultFrom : (before : ℕ) → Due → Option (List ℕ) → (at : ℕ) → TextCause → Type 0
IsFirstFaultFrom before due None at cause = ⊤
IsFirstFaultFrom before due (Some rest) at cause = (n : ℕ) × (at ≡ before + n) × IsFirstFault schedule_lines due rest n cause

-- the reading of a source behind so many lines stops: one call failed, or none did and the first faulty line is told; where it ends too early, the end was told
abbrev pub IsStopped : (before : ℕ) → Due → (old new : SourceState) → Refusal → Type 0
IsStopped before due old new Read = new.failures ≡ old.failures + 1
IsStopped before due old new (Text at cause) =
    IsFirstFaultFrom before due old.left at cause × (new.failures ≡ old.failures) × (cause ≡ End → new.has_ended ≡ true)
IsStopped before due old new _ = ⊥

-- lines were given that are due, one after another, and say this in range
pub record GaveLines (due : Due) (saids : List Said) (old new : SourceState) : Type 0 where
  pub due_each : AreDue schedule_lines due saids
  pub given : Consumes old.left new.left (lines_of schedule_lines saids)
  pub quiet : new.failures ≡ old.failures
