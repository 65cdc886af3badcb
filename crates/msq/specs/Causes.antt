-- What is told of a refusal.
use Rattle.std.specs.Prelude.{◌≡◌, List, ℕ, codes}
use Rattle.history.specs.declared.refusals.Refusal.{Refusal}
use Rattle.history.specs.declared.refusals.Refusal.TheVariants.{WornOut}
use Rattle.history_text.specs.HistoryText.{refusal_text}

-- a text is the number of a refusal, as histories write it
abbrev pub IsNumberOf : Refusal → List ℕ → Type 0
IsNumberOf (WornOut word) number = number ≡ codes "2"
IsNumberOf refusal number = number ≡ refusal_text refusal
