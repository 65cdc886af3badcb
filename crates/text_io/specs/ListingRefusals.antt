-- Why a text is refused as one of a listing.
use Rattle.std.specs.Prelude.{ℕ, List}
use Rattle.text_io.specs.Listings.{Listing, IsFirstFaultIn}
use Rattle.history.specs.declared.refusals.Refusal.{Refusal}
use Rattle.history.specs.declared.refusals.Refusal.TheVariants.{Memory, Text}

-- the refusal of a text that is none of a listing: its first faulty line and what is wrong with it, or no room
abbrev pub IsRefusalIn : {H I : Type 0} → Listing H I → List ℕ → Refusal → Type 0
IsRefusalIn l text (Text number cause) = IsFirstFaultIn l text number cause
IsRefusalIn l text Memory = Unit {0}
IsRefusalIn l text _ = ⊥
