-- The words that are left of a line.
use Rattle.std.specs.Prelude.{ℕ, List, [], ◌∷◌, Option, Some, None}
use Rattle.text_io.specs.Lines.{words_of}
use Rattle.text_io.specs.Numerals.{numeral}

-- the words of the rest of a line; none where nothing is left of it
abbrev pub words_left : Option (List ℕ) → List (List ℕ)
words_left None = []
words_left (Some rest) = words_of rest

-- a number is one word
abbrev pub number_words : ℕ → List (List ℕ)
number_words n = numeral n ∷ []
