-- Sums of two numbers.
use Rattle.std.specs.Prelude.{◌≡◌, ℕ, ◌+◌, ◌^◌, ◌≤◌, Result, Ok, Err}
use Rattle.parallel_sum.specs.declared.pairs.Pair.{Pair}
use Rattle.parallel_sum.specs.declared.pairs.Overflow.{Overflow}

-- the sum of a pair
abbrev pub sum_in : Pair → ℕ
sum_in p = p.one + p.other

-- an answer is the pair's sum, or that has no room in 64 bits
abbrev pub IsSumOf : Pair → Result ℕ Overflow → Type 0
IsSumOf p (Ok sum) = sum ≡ sum_in p
IsSumOf p (Err failed) = 2 ^ 64 ≤ sum_in p
