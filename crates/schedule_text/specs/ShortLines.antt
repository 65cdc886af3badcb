-- Lines whose long numbers are truncated, so that a line of any length is judged by a few of its bytes.
use Rattle.std.specs.Prelude.{◌≡◌, ◌≢◌, ℕ, suc, ◌≤◌, ◌<◌, ◌⊎◌, List, [], ◌∷◌, ◌++◌, Bool, true, false, length}

-- a byte is a decimal digit
abbrev pub IsDigit : ℕ → Type 0
IsDigit byte = (48 ≤ byte) × (byte ≤ 57)

-- of the bytes of a line all are kept but the digits behind the 21st byte of a word: how many bytes of the word at hand are kept whatever they are, before these bytes and after them
pub data Shortens : ℕ → List ℕ → List ℕ → ℕ → Type 0 where
  nothing : {room : ℕ} → Shortens room [] [] room
  space : {room left byte : ℕ} {says kept : List ℕ} → byte ≡ 32 → Shortens 21 says kept left → Shortens room (byte ∷ says) (byte ∷ kept) left
  early : {room left byte : ℕ} {says kept : List ℕ} → byte ≢ 32 → Shortens room says kept left → Shortens (suc room) (byte ∷ says) (byte ∷ kept) left
  digit : {left byte : ℕ} {says kept : List ℕ} → IsDigit byte → Shortens 0 says kept left → Shortens 0 (byte ∷ says) kept left
  other : {left byte : ℕ} {says kept : List ℕ} → byte ≢ 32 → ¬ IsDigit byte → Shortens 0 says kept left → Shortens 0 (byte ∷ says) (byte ∷ kept) left

-- what is held of a line: its first bytes, how many bytes of the word at hand are kept whatever they are, and whether bytes came for which there was no room
pub record Held : Type 0 where
  pub bytes : List ℕ
  pub room : ℕ
  pub is_over : Bool

-- so much is held of a line that says this so far: what is kept of it, or of that no more than 64 bytes fit
abbrev pub IsHeldBy : Bool → List ℕ → ℕ → List ℕ → Type 0
IsHeldBy false bytes room says = Shortens 21 says bytes room
IsHeldBy true bytes room says = (kept : List ℕ) × (left : ℕ) × Shortens 21 says kept left × (64 < length kept)

-- this is held of a line that says this so far
abbrev pub IsHeld : List ℕ → Held → Type 0
IsHeld says h = IsHeldBy h.is_over h.bytes h.room says

-- a byte is held behind the others, or there was no room for it
abbrev pub IsKept : (byte : ℕ) → (old new : Held) → Type 0
IsKept byte old new =
    ((new.is_over ≡ old.is_over) × (new.bytes ≡ old.bytes ++ byte ∷ []))
    ⊎ ((new.is_over ≡ true) × (length old.bytes ≡ 64))
