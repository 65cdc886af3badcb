-- Texts that a line may hold as they are.
use Rattle.std.specs.Prelude.{ℕ, ◌≤◌, List, All, length}

-- each byte is a printable one of ASCII, the space being one
abbrev pub IsPrintable : List ℕ → Type 0
IsPrintable bytes = All (λ byte. (32 ≤ byte) × (byte ≤ 126)) bytes

-- a text has at most so many bytes
abbrev pub IsShort : ℕ → List ℕ → Type 0
IsShort most bytes = length bytes ≤ most
