-- Bytes that come from a source, and what is told of them.
use Rattle.std.specs.Prelude.{◌≡◌, ℕ, ◌+◌, Bool, true, false, List, [], ◌∷◌, Result, Ok, Err, ⊤, length}
use Rattle.std.specs.Io.KnownBytes.{Consumes, IsAtEnd, prepend_known}
use Rattle.history.specs.declared.refusals.Refusal.{Refusal}
use Rattle.history.specs.declared.refusals.Refusal.TheVariants.{Read}
use Rattle.text_io.specs.Devices.{SourceState}
use Rattle.text_io.specs.Lines.{HasNo, line}
use Rattle.schedule_text.specs.ShortLines.{Held, IsHeld}

-- a source with these bytes read ahead: they are left before its own
abbrev pub stream : (ahead : List ℕ) → SourceState → SourceState
stream ahead source = record {
  left = prepend_known ahead source.left;
  failures = source.failures;
  budget = source.budget + length ahead;
  has_ended = source.has_ended;
}

-- one byte was given
pub record GaveByte (byte : ℕ) (old new : SourceState) : Type 0 where
  pub given : Consumes old.left new.left (byte ∷ [])
  pub fewer : new.budget + 1 ≡ old.budget
  pub quiet : new.failures ≡ old.failures

-- nothing is left, and the end was told
pub record IsOver (old new : SourceState) : Type 0 where
  pub given : Consumes old.left new.left []
  pub empty : IsAtEnd new.left
  pub ended : new.has_ended ≡ true
  pub quiet : new.failures ≡ old.failures

-- a whole line was given, and this is held of it
pub record GaveLine (held : Held) (old new : SourceState) : Type 0 where
  pub says : List ℕ
  pub whole : HasNo 10 says
  pub given : Consumes old.left new.left (line says)
  pub kept : IsHeld says held
  pub quiet : new.failures ≡ old.failures

-- no line feed was left, and the end was told
pub record EndedInLine (old new : SourceState) : Type 0 where
  pub says : List ℕ
  pub unbroken : HasNo 10 says
  pub given : Consumes old.left new.left says
  pub empty : IsAtEnd new.left
  pub ended : new.has_ended ≡ true
  pub quiet : new.failures ≡ old.failures

-- whether a byte was left: one was given, or the end was told
abbrev pub WasRead : (old new : SourceState) → Bool → Type 0
WasRead old new true = (byte : ℕ) × GaveByte byte old new
WasRead old new false = IsOver old new

-- what is refused is refused as one call failed
abbrev pub HasFailed : {A : Type 0} → Result A Refusal → (old new : SourceState) → Type 0
HasFailed (Ok answer) old new = ⊤
HasFailed (Err Read) old new = new.failures ≡ old.failures + 1
HasFailed (Err _) old new = ⊥
