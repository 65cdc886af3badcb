-- Lines and their words.
use Rattle.std.specs.Prelude.{◌≢◌, ℕ, List, [], ◌∷◌, ◌++◌, All, ◌==◌}
use Rattle.std.specs.List.{slice_split, join_with_byte}

-- no byte of the list is this one
abbrev pub HasNo : ℕ → List ℕ → Type 0
HasNo byte bytes = All (λ b. b ≢ byte) bytes

-- a line of a text: what it says, and a line feed
abbrev pub line : List ℕ → List ℕ
line says = says ++ 10 ∷ []

-- words in a row, with one space between each two
abbrev pub spaced : List (List ℕ) → List ℕ
spaced words = join_with_byte 32 words

-- the words of a line: what stands between its spaces
abbrev pub words_of : List ℕ → List (List ℕ)
words_of says = slice_split (λ b. b == 32) says
