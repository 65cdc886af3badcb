-- What one level of sums gives.
use Rattle.std.specs.Prelude.{◌≡◌, ℕ, ◌^◌, ◌≤◌, List, map, Result, Ok, Err}
use Rattle.std.specs.List.{Any}
use Rattle.std.specs.Global.{Vec}
use Rattle.parallel_sum.specs.declared.levels.Failure.{Failure}
use Rattle.parallel_sum.specs.declared.levels.Failure.TheVariants.{Overflow as NoRoom, Memory}
use Rattle.parallel_sum.specs.declared.pairs.Overflow.{Overflow}

-- an answer failed
abbrev pub Failed : Result ℕ Overflow → Type 0
Failed (Ok sum) = ⊥
Failed (Err failed) = Unit {0}

-- these are the sums that were answered; or one of them failed, or memory was refused
abbrev pub AreAdded : List (Result ℕ Overflow) → Result (Vec ℕ) Failure → Type 0
AreAdded answers (Ok sums) = answers ≡ map (λ sum. Ok sum) sums.items
AreAdded answers (Err NoRoom) = Any Failed answers
AreAdded answers (Err Memory) = Unit {0}

-- there is no sum: it has no room in 64 bits, or memory was refused
abbrev pub FailsSo : (total : ℕ) → Failure → Type 0
FailsSo total NoRoom = 2 ^ 64 ≤ total
FailsSo total Memory = Unit {0}
