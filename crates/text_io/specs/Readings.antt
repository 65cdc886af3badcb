-- What reading a source to its end gives, and how it ends.
use Rattle.std.specs.Prelude.{◌≡◌, ℕ, ◌+◌, true, List, ◌++◌, Option, Some, None, Result, Ok, Err, ⊤}
use Rattle.std.specs.Io.KnownBytes.{Consumes, IsAtEnd}
use Rattle.text_io.specs.Devices.{SourceState}
use Rattle.history.specs.declared.refusals.Refusal.{Refusal}
use Rattle.history.specs.declared.refusals.Refusal.TheVariants.{Memory, Read}

-- known bytes were these and no others
abbrev pub WereAll : Option (List ℕ) → List ℕ → Type 0
WereAll None text = ⊤
WereAll (Some bytes) text = bytes ≡ text

-- nothing is left, and the end was told
abbrev pub HasEnded : SourceState → Type 0
HasEnded source = IsAtEnd source.left × (source.has_ended ≡ true)

-- a source told its end, and no call failed
abbrev pub ReachesEnd : (old new : SourceState) → Type 0
ReachesEnd old new = (new.failures ≡ old.failures) × (new.has_ended ≡ true)

-- bytes that were given are added to a text
pub record AddsGiven (old new : SourceState) (text longer : List ℕ) : Type 0 where
  pub bytes : List ℕ
  pub given : Consumes old.left new.left bytes
  pub added : longer ≡ text ++ bytes

-- a call that gives bytes fails where it reads, and not where memory is refused
abbrev pub ReadsOrFails : {A : Type 0} → Result A Refusal → (old new : SourceState) → Type 0
ReadsOrFails (Ok count) old new = new.failures ≡ old.failures
ReadsOrFails (Err Memory) old new = new.failures ≡ old.failures
ReadsOrFails (Err Read) old new = new.failures ≡ old.failures + 1
ReadsOrFails (Err _) old new = ⊥

-- how the reading behind a refusal ended: a call failed where it is refused so, and else none did; where memory wasn't
-- refused the end was told
abbrev pub EndsReadingAt : Refusal → (old new : SourceState) → Type 0
EndsReadingAt Memory old new = new.failures ≡ old.failures
EndsReadingAt Read old new = new.failures ≡ old.failures + 1
EndsReadingAt _ old new = ReachesEnd old new

-- how the reading behind an answer ended, by what is answered
abbrev pub EndsReadingFor : {A : Type 0} → Result A Refusal → (old new : SourceState) → Type 0
EndsReadingFor (Ok answer) old new = ReachesEnd old new
EndsReadingFor (Err refusal) old new = EndsReadingAt refusal old new
