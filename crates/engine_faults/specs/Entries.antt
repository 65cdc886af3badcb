-- What a table tells of a refusal that is named.
use Rattle.std.specs.Prelude.{◌≡◌, ◌⊎◌, ℕ, List, ◌++◌, codes, Bool, true, false, Result, All, Contains, IfOk, OnOk}
use Rattle.history.specs.declared.refusals.Refusal.{Refusal}
use Rattle.text_io.specs.Blocks.{Writes}
use Rattle.text_io.specs.Devices.{SinkState}
use Rattle.engine_faults.specs.declared.lookups.Entry.{Entry}

-- an entry has this word as its number or its name
abbrev pub IsCalled : List ℕ → Entry → Type 0
IsCalled word entry = (entry.number.now ≡ word) ⊎ (entry.name.now ≡ word)

-- an entry is one of a table, and has this word as its number or its name
pub record IsEntryOf (entries : List Entry) (word : List ℕ) (entry : Entry) : Type 0 where
  pub listed : Contains entries entry
  pub called : IsCalled word entry

-- a word is explained by a table: the text of an entry that it calls is written; or no entry is called so, false is answered, and
-- the sink is as it was
abbrev pub Explains : List Entry → List ℕ → SinkState → SinkState → Result Bool Refusal → Type 0
Explains entries word old new result =
    ((entry : Entry) × IsEntryOf entries word entry × Writes old new entry.text.now result × IfOk result (λ found. found ≡ true))
    ⊎ (All (λ entry. ¬ IsCalled word entry) entries × OnOk result (new ≡ old) × IfOk result (λ found. found ≡ false))

-- the line that names an entry: its number, a space and its name
abbrev pub title : Entry → List ℕ
title entry = entry.number.now ++ (codes " " ++ (entry.name.now ++ codes "\n"))
