-- Lines of a recording's text that say operations of one thread which overlap.
use Rattle.std.specs.Prelude.{◌≡◌, ◌≢◌, ◌+◌, ◌-◌, ◌<◌, ◌≤◌, ℕ, if◌then◌else◌, List, Option, None, Some, is_none, unwrap_or, length, slice_get, slice_index_or, Contains}
use Rattle.text_io.specs.Readings.{WereAll}
use Rattle.recording_text.specs.Recordings.{Recorded}
use Rattle.recording_text.specs.RecordingLines.{IsOperationInRange}
use Rattle.recording_text.specs.RecordingReading.{SaysOperation}
use Rattle.place_engine.specs.WhyTexts.{lines_in}
use Rattle.place_engine.specs.declared.overlaps.Spell.{Spell}

-- an operation began before another one ended, which a pending one never does
abbrev pub BeganBefore : (first : ℕ) (last : Option ℕ) → Type 0
BeganBefore first None = Unit {0}
BeganBefore first (Some last) = first < last

-- the line of this number, from 1, says an operation in range
pub record SaysAt (lines : List (List ℕ)) (number : ℕ) (r : Recorded) : Type 0 where
  pub says : List ℕ
  pub positive : 0 < number
  pub there : slice_get lines (number - 1) ≡ Some says
  pub said : SaysOperation says r
  pub in_range : IsOperationInRange r

-- two lines, the first before the second, say operations of one thread, each of which began before the other ended
pub record AreOverlappingIn (lines : List (List ℕ)) (one other : ℕ) : Type 0 where
  pub operation : Recorded
  pub another : Recorded
  pub sooner : one < other
  pub says : SaysAt lines one operation
  pub says_too : SaysAt lines other another
  pub same : operation.name ≡ another.name
  pub began : BeganBefore operation.first another.last
  pub began_too : BeganBefore another.first operation.last

-- two lines of a text do
abbrev pub AreOverlapping : (text : List ℕ) (one other : ℕ) → Type 0
AreOverlapping text one other = AreOverlappingIn (lines_in text) one other

-- what is told of a text: two such lines, or nothing, where there are none
abbrev pub TellsOverlap : (text : List ℕ) → Option (ℕ × ℕ) → Type 0
TellsOverlap text None = (one other : ℕ) → ¬ AreOverlapping text one other
TellsOverlap text (Some lines) = AreOverlapping text lines.0 lines.1

-- the same of known bytes
abbrev pub SaysOverlap : (given : Option (List ℕ)) → Option (ℕ × ℕ) → Type 0
SaysOverlap given found = (text : List ℕ) × WereAll given text × TellsOverlap text found

-- when an operation ended, if it did
abbrev pub end_of : Spell → Option ℕ
end_of spell = if spell.is_pending then None else Some spell.last

-- this is the operation that one of these lines says
pub record IsSpellIn (lines : List (List ℕ)) (spell : Spell) : Type 0 where
  pub operation : Recorded
  pub says : SaysAt lines spell.line operation
  pub name : operation.name ≡ spell.name.now
  pub first : operation.first ≡ spell.first
  pub pending : is_none operation.last ≡ spell.is_pending
  pub last : unwrap_or operation.last 0 ≡ spell.last

-- a line says this operation, in range, as that of this number
pub record SaysSpell (says : List ℕ) (number : ℕ) (spell : Spell) : Type 0 where
  pub operation : Recorded
  pub said : SaysOperation says operation
  pub in_range : IsOperationInRange operation
  pub name : operation.name ≡ spell.name.now
  pub first : operation.first ≡ spell.first
  pub pending : is_none operation.last ≡ spell.is_pending
  pub last : unwrap_or operation.last 0 ≡ spell.last
  pub line : spell.line ≡ number

-- a line says no operation in range
pub record SaysNone (says : List ℕ) : Type 0 where
  pub none : (r : Recorded) → SaysOperation says r → ¬ IsOperationInRange r

-- an operation of this line is one of a list
abbrev pub HasSpell : List Spell → (number : ℕ) → Type 0
HasSpell spells number = (spell : Spell) × Contains spells spell × (spell.line ≡ number)

-- each of the first so many lines that says an operation has it in a list
abbrev pub HasSpells : (lines : List (List ℕ)) (count : ℕ) → List Spell → Type 0
HasSpells lines count spells = (number : ℕ) (r : Recorded) → number ≤ count → SaysAt lines number r → HasSpell spells number

-- two operations are of one thread, in two lines, and overlap
pub record Clash (one other : Spell) : Type 0 where
  pub apart : one.line ≢ other.line
  pub same : one.name.now ≡ other.name.now
  pub began : BeganBefore one.first (end_of other)
  pub began_too : BeganBefore other.first (end_of one)

-- no two operations of a list that are neighbours clash
abbrev pub NoNeighboursClash : List Spell → Type 0
NoNeighboursClash spells = (k : ℕ) (d : Spell) → k + 1 < length spells → ¬ Clash (slice_index_or spells k d) (slice_index_or spells (k + 1) d)

-- no two of them do
abbrev pub NoneClash : List Spell → Type 0
NoneClash spells = (one other : Spell) → Contains spells one → Contains spells other → ¬ Clash one other
