-- What a sink has taken of a text, and why a writer gave up.
use Rattle.std.specs.Prelude.{◌≡◌, ℕ, ◌+◌, true, List, ◌++◌, Option, ◌⊎◌, Result, OnOk, OnErr, IfErr}
use Rattle.std.specs.Io.KnownBytes.{Appends}
use Rattle.history.specs.declared.refusals.Refusal.{Refusal}
use Rattle.history.specs.declared.refusals.Refusal.TheVariants.{Write}
use Rattle.text_io.specs.Devices.{SinkState}

-- a sink took the front of a text, and the rest of it is held back; nothing is said of unknown contents
pub record Sends (old new : Option (List ℕ)) (text held : List ℕ) : Type 0 where
  pub sent : List ℕ
  pub taken : Appends old new sent
  pub whole : sent ++ held ≡ text

-- a sink took a prefix of a text and nothing else; nothing is said of unknown contents
abbrev pub TakesPrefix : Option (List ℕ) → Option (List ℕ) → List ℕ → Type 0
TakesPrefix old new text = (rest : List ℕ) × Sends old new text rest

-- one call of a sink failed, or none did and the last one that was handed bytes took nothing
abbrev pub GivesUp : (old new : SinkState) → Type 0
GivesUp old new = (new.failures ≡ old.failures + 1) ⊎ ((new.failures ≡ old.failures) × (new.is_full ≡ true))

-- what the putting of a text into a block answers, which then holds so much back: the sink took the rest, and no call failed; or
-- it is refused by `Write` alone, a prefix of the text was taken, and the writer gave up
pub record Puts {A : Type 0} (old new : SinkState) (text held : List ℕ) (result : Result A Refusal) : Type 0 where
  pub ok : OnOk result (Sends old.contents new.contents text held)
  pub quiet : OnOk result (new.failures ≡ old.failures)
  pub only_write : IfErr result (λ refusal. refusal ≡ Write)
  pub prefix : OnErr result (TakesPrefix old.contents new.contents text)
  pub cause : OnErr result (GivesUp old new)

-- what the writing of a text to a sink answers: all of it was taken and no call failed; or it is refused by `Write` alone, a
-- prefix of it was taken, and the writer gave up
pub record Writes {A : Type 0} (old new : SinkState) (text : List ℕ) (result : Result A Refusal) : Type 0 where
  pub ok : OnOk result (Appends old.contents new.contents text)
  pub quiet : OnOk result (new.failures ≡ old.failures)
  pub only_write : IfErr result (λ refusal. refusal ≡ Write)
  pub prefix : OnErr result (TakesPrefix old.contents new.contents text)
  pub cause : OnErr result (GivesUp old new)
