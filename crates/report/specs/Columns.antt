-- Texts at the left or right end of so many places.
use Rattle.std.specs.Prelude.{ℕ, ◌-◌, List, ◌++◌, length, replicate}

-- a text at the right end of so many places; a wider one takes the places that it needs
abbrev pub right_in : (width : ℕ) → List ℕ → List ℕ
right_in width text = replicate (width - length text) 32 ++ text

-- a text at the left end of so many places; a wider one takes the places that it needs
abbrev pub left_in : (width : ℕ) → List ℕ → List ℕ
left_in width text = text ++ replicate (width - length text) 32
