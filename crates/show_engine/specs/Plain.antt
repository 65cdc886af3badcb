-- What is left of a text without its colours.
use Rattle.std.specs.Prelude.{◌≡◌, ℕ, Bool, true, false, nat_eq, if◌then◌else◌, List, [], ◌∷◌, ◌++◌}

-- the byte that begins a colour
abbrev pub escape : ℕ
escape = 27

-- whether a colour has begun and goes on behind a byte: from an escape to the next `m`
abbrev pub is_in_colour : Bool → ℕ → Bool
is_in_colour before byte = if nat_eq byte escape then true else (if nat_eq byte 109 then false else before)

-- what is left of a byte: none of one of a colour
abbrev pub uncoloured : Bool → ℕ → List ℕ
uncoloured before byte = if nat_eq byte escape then [] else (if before then [] else byte ∷ [])

-- what is left of bytes without their colours, where one has begun before or hasn't
abbrev pub plain_after : Bool → List ℕ → List ℕ
plain_after before [] = []
plain_after before (byte ∷ bytes) = uncoloured before byte ++ plain_after (is_in_colour before byte) bytes

-- what is left of a text without its colours: each is an escape and what follows it up to an `m`
abbrev pub plain : List ℕ → List ℕ
plain text = plain_after false text

-- bytes are a colour: nothing is left of them, and none has begun behind them
abbrev pub IsColour : List ℕ → Type 0
IsColour code = (before : Bool) (rest : List ℕ) → plain_after before (code ++ rest) ≡ plain_after false rest

-- bytes are these ones with colours, of which none goes on behind them, wherever they stand
abbrev pub Colours : (coloured bytes : List ℕ) → Type 0
Colours coloured bytes = (before : Bool) (rest : List ℕ) → plain_after before (coloured ++ rest) ≡ bytes ++ plain_after false rest
