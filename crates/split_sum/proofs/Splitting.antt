-- The squares of two ranges, one behind the other.
use Rattle.std.proofs.Common.{◌≡◌, ◌∙◌, ◌+◌, ◌-◌, ◌*◌, ◌≤◌, sym, refl, ap, ℕ, zero, suc, arith}
use Rattle.split_sum.specs.Squares.{squares}

pub squares-add : (first m n : ℕ) → squares first (m + n) ≡ squares first m + squares (first + m) n
squares-add first m zero =
    let same : m + 0 ≡ m = omega arith in
    let none : squares first m ≡ squares first m + 0 = omega arith in
    ap (squares first) same ∙ none
squares-add first m (suc n) =
    let next : m + suc n ≡ suc (m + n) = omega arith in
    let at : first + (m + n) ≡ (first + m) + n = omega arith in
    let ih = squares-add first m n in
    let square = ap (λ (x : ℕ). x * x) at in
    let last : squares first (suc (m + n)) ≡ squares first (m + n) + (first + (m + n)) * (first + (m + n)) = refl in
    ap (squares first) next ∙ last ∙ added (squares first (m + n)) (squares first m) (squares (first + m) n) ((first + (m + n)) * (first + (m + n))) (((first + m) + n) * ((first + m) + n)) ih square
  where
    added : (s a b x y : ℕ) → s ≡ a + b → x ≡ y → s + x ≡ a + (b + y)
    added s a b x y h k = omega (arith, h, k)

-- a range in two parts, the other one of which begins behind the one
pub squares-halves : (first middle many half : ℕ) → half ≤ many → middle ≡ first + half → squares first half + squares middle (many - half) ≡ squares first many
squares-halves first middle many half low at =
    let all : half + (many - half) ≡ many = omega (arith, low) in
    sym (ap (squares first) (sym all) ∙ squares-add first half (many - half) ∙ ap (λ m. squares first half + squares m (many - half)) (sym at))
