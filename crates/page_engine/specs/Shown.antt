-- How the bytes of a text are written within a page, in which no browser takes them for something else.
use Rattle.std.specs.Prelude.{ℕ, ◌+◌, ◌/◌, ◌%◌, Bool, ◌&&◌, ◌||◌, not, if◌then◌else◌, List, [], ◌∷◌, nat_eq, nat_lt, nat_le}
use Rattle.std.specs.List.{flat_map}

-- the hexadecimal digit of a number below 16
abbrev pub hex_digit : ℕ → ℕ
hex_digit n = if nat_lt n 10 then 48 + n else 55 + n

-- whether a byte stands for itself: a line feed, and 32 to 126 but for %, & and <
abbrev pub is_plain : ℕ → Bool
is_plain byte = nat_eq byte 10 || (nat_le 32 byte && nat_le byte 126 && not (nat_eq byte 37) && not (nat_eq byte 38) && not (nat_eq byte 60))

-- a byte as it is written: itself, or % and its two hexadecimal digits
abbrev pub shown : ℕ → List ℕ
shown byte = if is_plain byte then byte ∷ [] else 37 ∷ hex_digit (byte / 16) ∷ hex_digit (byte % 16) ∷ []

-- a text as it is written, byte by byte
abbrev pub shown_text : List ℕ → List ℕ
shown_text text = flat_map shown text
