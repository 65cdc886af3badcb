-- Words of values, and the number of a value's word.
use Rattle.std.proofs.Common.{◌≡◌, ℕ, ◌+◌, ◌*◌, ◌/◌, ◌%◌, ◌^◌, ◌<◌, arith}
use Rattle.line_steps.specs.Words.{value_of}

-- the word of a word's value is that word
pub word_of-value_of : (n : ℕ) → (value_of n).from * 2 ^ 48 + (value_of n).body ≡ n
word_of-value_of n = omega arith

-- the value of a value's word is that value
pub value_of-word : (n from body : ℕ) → body < 2 ^ 48 → n ≡ from * 2 ^ 48 + body → value_of n ≡ record { from = from; body = body }
value_of-word n from body small e =
    let f : n / 2 ^ 48 ≡ from = omega arith in
    let b : n % 2 ^ 48 ≡ body = omega arith in
    (λ i. record { from = f i; body = b i })
