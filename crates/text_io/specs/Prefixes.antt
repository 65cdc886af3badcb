-- What a text is refused by, of which a prefix or all is read.
use Rattle.std.specs.Prelude.{ℕ, List, ◌++◌, Option, Some, None, ⊤}
use Rattle.history.specs.declared.text_causes.TextCause.{TextCause}
use Rattle.text_io.specs.Grammars.{Grammar, IsFirstFault}
use Rattle.history.specs.declared.refusals.Refusal.{Refusal}
use Rattle.history.specs.declared.refusals.Refusal.TheVariants.{Memory, Text, Read}

-- the refusal of a text that isn't in this grammar: its first faulty line and what is wrong with it, or no room
abbrev pub IsRefusedBy : {S R : Type 0} → Grammar S R → S → List ℕ → Refusal → Type 0
IsRefusedBy g s text (Text number cause) = IsFirstFault g s text number cause
IsRefusedBy g s text Memory = Unit {0}
IsRefusedBy g s text _ = ⊥

-- each text that begins so has this first faulty line, for this cause
abbrev pub IsLastingFault : {S R : Type 0} → Grammar S R → S → (prefix : List ℕ) → ℕ → TextCause → Type 0
IsLastingFault g s prefix number cause = (later : List ℕ) → IsFirstFault g s (prefix ++ later) number cause

-- known bytes have this first faulty line, for this cause
abbrev pub IsFaultOfGiven : {S R : Type 0} → Grammar S R → S → (given : Option (List ℕ)) → ℕ → TextCause → Type 0
IsFaultOfGiven g s None number cause = ⊤
IsFaultOfGiven g s (Some text) number cause = IsFirstFault g s text number cause

-- the refusal of known bytes that are read: by their first faulty line and what is wrong with it, no room, or a failed call
abbrev pub IsRefusedReading : {S R : Type 0} → Grammar S R → S → (given : Option (List ℕ)) → Refusal → Type 0
IsRefusedReading g s given (Text number cause) = IsFaultOfGiven g s given number cause
IsRefusedReading g s given Memory = Unit {0}
IsRefusedReading g s given Read = Unit {0}
IsRefusedReading g s given _ = ⊥
