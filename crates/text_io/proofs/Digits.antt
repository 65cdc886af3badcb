-- Reading a number digit by digit.
use Rattle.std.proofs.Common.{◌≡◌, ◌≢◌, ℕ, zero, suc, ◌+◌, ◌-◌, ◌*◌, ◌/◌, ◌%◌, ◌<◌, ◌≤◌, ◌⊎◌, List, [], ◌∷◌, ◌++◌, length, get_or, take, refl, sym, ap, subst, ◌∙◌, arith, add-one}
use mathlib.Core.Logic.{⊎_elim}
use Rattle.std.proofs.lemmas.List.{length-append}
use Rattle.std.proofs.Math.Seq.{take-suc, take-length}
use Rattle.std.specs.Prelude.{◌↔◌, All}
use Rattle.text_io.specs.Numerals.{numeral, IsPlain}
use Rattle.text_io.proofs.Numerals.{numeral_digit, numeral_step, IsPlain-numeral}

-- one more digit behind a number above 0
numeral-grown : (m d : ℕ) → 0 < m → d < 10 → numeral (m * 10 + d) ≡ numeral m ++ (48 + d) ∷ []
numeral-grown m d positive digit =
    let front : (m * 10 + d) / 10 ≡ m = omega arith in
    let back : (m * 10 + d) % 10 ≡ d = omega arith in
    let step : numeral (m * 10 + d) ≡ numeral ((m * 10 + d) / 10) ++ (48 + (m * 10 + d) % 10) ∷ [] = numeral_step (m * 10 + d) (omega arith) in
    rw (front, back) at step

-- digits that don't begin with a superfluous 0 are those of the number; no digits stand for 0
pub record IsFrontOf (n : ℕ) (digits : List ℕ) : Type 0 where
  pub none : digits ≡ [] → n ≡ 0
  pub some : 0 < length digits → (get_or digits 0 0 ≡ 48 → length digits ≡ 1) → digits ≡ numeral n

-- a number whose digits begin with another one than 0
positive_from_first : (m x : ℕ) (xs : List ℕ) → x ∷ xs ≡ numeral m → x ≢ 48 → 0 < m
positive_from_first zero x xs same first =
    let lone : x ∷ xs ≡ 48 ∷ [] = same ∙ numeral_digit 0 (omega arith) in
    absurd (first cc)
positive_from_first (suc m) x xs same first = omega arith

-- one more digit
IsFrontOf-grown : (m d : ℕ) (digits : List ℕ) → d < 10 → IsFrontOf m digits → IsFrontOf (m * 10 + d) (digits ++ (48 + d) ∷ [])
IsFrontOf-grown m d [] digit front =
    let zero : m ≡ 0 = front.none refl in
    let same : m * 10 + d ≡ d = omega arith in
    record {
      none = λ e. absurd cc;
      some = λ long one. rw same (sym (numeral_digit d digit));
    }
IsFrontOf-grown m d (x ∷ xs) digit front =
    record {
      none = λ e. absurd cc;
      some = λ long one.
          let first : x ≢ 48 = λ e. let lone : length ((x ∷ xs) ++ (48 + d) ∷ []) ≡ 1 = one e in absurd (omega (arith, length-append xs ((48 + d) ∷ []))) in
          let same : x ∷ xs ≡ numeral m = front.some (omega arith) (λ e. absurd (first e)) in
          ap (λ (front : List ℕ). front ++ (48 + d) ∷ []) same ∙ sym (numeral-grown m d (positive_from_first m x xs same first) digit);
    }

-- one more byte, where the number grows by its digit
pub IsFrontOf-next : (n : ℕ) (bytes : List ℕ) (i byte : ℕ) → i < length bytes → get_or bytes i 0 ≡ byte → 48 ≤ byte → byte ≤ 57
    → IsFrontOf n (take i bytes) → IsFrontOf (n * 10 + (byte - 48)) (take (i + 1) bytes)
IsFrontOf-next n bytes i byte within is low high front =
    let small : byte - 48 < 10 = omega arith in
    let grown : IsFrontOf (n * 10 + (byte - 48)) (take i bytes ++ (48 + (byte - 48)) ∷ []) = IsFrontOf-grown n (byte - 48) (take i bytes) small front in
    let back : 48 + (byte - 48) ≡ byte = omega arith in
    let longer : take (i + 1) bytes ≡ take i bytes ++ byte ∷ [] = rw (add-one, take-suc bytes i 0, is) refl in
    rw longer (rw back at grown)

-- a list with a byte that is no digit is no number
pub no_number-byte : (word : List ℕ) (i byte : ℕ) → i < length word → get_or word i 0 ≡ byte → (byte < 48) ⊎ (57 < byte) → (n : ℕ) → word ≢ numeral n
no_number-byte word i byte within is other n same =
    let digits = (IsPlain-numeral n).digits in
    let all = rw (sym same) at digits in
    let here : (48 ≤ get_or word i 0) × (get_or word i 0 ≤ 57) = all i 0 within in
    let low : 48 ≤ byte = rw is at here.0 in
    let high : byte ≤ 57 = rw is at here.1 in
    ⊎_elim (λ below. omega (arith, below, low)) (λ above. omega (arith, above, high)) other

-- the empty list is no number
pub no_number-empty : (word : List ℕ) → length word ≡ 0 → (n : ℕ) → word ≢ numeral n
no_number-empty word empty n same = let some : 0 < length (numeral n) = (IsPlain-numeral n).some in let long : length word ≡ length (numeral n) = ap length same in omega (arith, some, long, empty)

-- nor is one of several digits that begins with 0
pub no_number-zero : (word : List ℕ) → 1 < length word → get_or word 0 0 ≡ 48 → (n : ℕ) → word ≢ numeral n
no_number-zero word several begins n same =
    let first = (IsPlain-numeral n).first in
    let one : length word ≡ 1 = (rw (sym same) at first) begins in
    omega (arith, one, several)

-- the digits up to a place are those of a number
number_to : (word : List ℕ) → All (λ byte. (48 ≤ byte) × (byte ≤ 57)) word → (i : ℕ) → i ≤ length word → (n : ℕ) × IsFrontOf n (take i word)
number_to word digits zero within = (0, record { none = λ e. refl; some = λ long first. absurd (omega (arith, long)) })
number_to word digits (suc i) within =
    let front = number_to word digits i (omega arith) in
    let digit = digits i 0 (omega arith) in
    (front.0 * 10 + (get_or word i 0 - 48), rw (← add-one i) (IsFrontOf-next front.0 word i (get_or word i 0) (omega arith) refl digit.0 digit.1 front.1))

-- a plain word is a number
number_of_plain : (word : List ℕ) → IsPlain word → (n : ℕ) × (word ≡ numeral n)
number_of_plain word plain =
    let front = number_to word plain.digits (length word) (omega arith) in
    let whole : take (length word) word ≡ word = take-length word in
    let all : IsFrontOf front.0 word = rw whole at front.1 in
    (front.0, all.some plain.some plain.first)

-- the plain words are the numbers
pub plain_or_number : (word : List ℕ) → IsPlain word ↔ ((n : ℕ) × (word ≡ numeral n))
plain_or_number word = (number_of_plain word, λ found. subst IsPlain (sym found.1) (IsPlain-numeral found.0))
