-- Decimal numbers of any length.
use Rattle.std.specs.Prelude.{◌≡◌, ◌≤◌, ◌^◌, ℕ, suc, List, [], length, All, false, Option, MatchOption, slice_index, ◌<◌}
use Rattle.std.specs.Fmt.{digits_onto}

-- the decimal digits of a number, however many
unfoldable pub numeral : ℕ → List ℕ
numeral n = digits_onto (suc n) 10 false n []

-- a number of any length as one of 64 bits: none where it is too large
abbrev pub Shows : ℕ → Option ℕ → Type 0
Shows n number = MatchOption number (2 ^ 64 ≤ n) (λ m. m ≡ n)

-- a number lies in this range
abbrev pub IsWithin : ℕ → ℕ → ℕ → Type 0
IsWithin low high n = (low ≤ n) × (n ≤ high)

-- one digit or more, the first of several not being 0
pub record IsPlain (word : List ℕ) : Type 0 where
  pub some : 0 < length word
  pub digits : All (λ byte. (48 ≤ byte) × (byte ≤ 57)) word
  pub first : slice_index word 0 ≡ 48 → length word ≡ 1
