-- What the reader of a listing finds line by line.
use Rattle.std.specs.Prelude.{◌≡◌, ℕ, List, [], ◌∷◌, ◌++◌}
use Rattle.text_io.specs.Lines.{line}
use Rattle.text_io.specs.LineReadings.{IsWrong}
use Rattle.text_io.specs.Listings.{Listing, SaysItem}
use Rattle.history.specs.declared.refusals.Refusal.{Refusal}
use Rattle.history.specs.declared.refusals.Refusal.TheVariants.{Memory, Text}
use Rattle.text_io.specs.declared.formats.ItemError.{ItemError}
use Rattle.text_io.specs.declared.formats.ItemError.TheVariants.{Memory as NoRoom, Wrong}

-- the first line of a text says this, in range, and the rest follows it
abbrev pub IsAfterFirst : {H I : Type 0} → Listing H I → List ℕ → H → List ℕ → Type 0
IsAfterFirst l text h rest = l.header_in_range h × (text ≡ line (l.header h) ++ rest)

-- a line behind this first one says no item, or one that is out of range; or there was no room
abbrev pub StopsItem : {H I : Type 0} → Listing H I → H → List ℕ → ItemError → Type 0
StopsItem l h says (Wrong cause) = IsWrong (SaysItem l says) (l.in_range h) cause
StopsItem l h says NoRoom = Unit {0}

-- the item that a line says, in range, is added to a list
abbrev pub AddsItem : {H I V : Type 0} → Listing H I → (V → I) → H → List V → List V → List ℕ → Type 0
AddsItem {V} l said h old new says =
    (item : V) × SaysItem l says (said item) × l.in_range h (said item) × (new ≡ old ++ item ∷ [])

-- the line of this number says no item, or one that is out of range; or there was no room
abbrev pub IsItemRefusal : {H I : Type 0} → Listing H I → H → ℕ → List ℕ → Refusal → Type 0
IsItemRefusal l h number says (Text at cause) = (at ≡ number) × IsWrong (SaysItem l says) (l.in_range h) cause
IsItemRefusal l h number says Memory = Unit {0}
IsItemRefusal l h number says _ = ⊥
