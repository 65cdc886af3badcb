-- The last digits of a number.
use Rattle.std.proofs.Common.{◌≡◌, ℕ, ◌+◌, ◌<◌, ◌≤◌, ◌^◌, ◌/◌, ◌%◌, List, [], ◌∷◌, ◌++◌, decimal, ap, ◌∙◌, append_assoc, arith}
use Rattle.std.proofs.lemmas.Fmt.{decimal_digit, decimal_step}

-- a number of two digits
pub decimal_two : (n : ℕ) → 10 ≤ n → n < 100 → decimal n ≡ (48 + n / 10) ∷ (48 + n % 10) ∷ []
decimal_two n some few = decimal_step n some (omega (arith, few)) ∙ ap (λ (l : List ℕ). l ++ (48 + n % 10) ∷ []) (decimal_digit (n / 10) (omega (arith, few)))

-- the digits of the last two places of a number
abbrev pub pair : ℕ → List ℕ
pair n = (48 + n / 10 % 10) ∷ (48 + n % 10) ∷ []

-- a number of three digits or more
pub decimal_pair : (n : ℕ) → 100 ≤ n → n < 2 ^ 64 → decimal n ≡ decimal (n / 100) ++ pair n
decimal_pair n many fits =
    let hundreds : n / 10 / 10 ≡ n / 100 = omega arith in
    decimal_step n (omega (arith, many)) fits
    ∙ ap (λ (l : List ℕ). l ++ (48 + n % 10) ∷ []) (decimal_step (n / 10) (omega (arith, many)) (omega (arith, fits)))
    ∙ append_assoc (decimal (n / 10 / 10)) ((48 + n / 10 % 10) ∷ []) ((48 + n % 10) ∷ [])
    ∙ ap (λ (m : ℕ). decimal m ++ pair n) hundreds

-- a number of five digits or more
pub decimal_pairs : (n : ℕ) → 10000 ≤ n → n < 2 ^ 64 → decimal n ≡ decimal (n / 100 / 100) ++ (pair (n / 100) ++ pair n)
decimal_pairs n many fits =
    decimal_pair n (omega (arith, many)) fits
    ∙ ap (λ (l : List ℕ). l ++ pair n) (decimal_pair (n / 100) (omega (arith, many)) (omega (arith, fits)))
    ∙ append_assoc (decimal (n / 100 / 100)) (pair (n / 100)) (pair n)
