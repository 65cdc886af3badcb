-- Lines whose long numbers are truncated, and their words.
use Rattle.std.proofs.Common.{◌≡◌, ◌≢◌, ℕ, zero, suc, ◌≤◌, ◌<◌, inl, inr, List, [], ◌∷◌, ◌++◌, length, get_or, All, Bool, refl, sym, ap, ◌∙◌, arith, ◌==◌}
use Rattle.std.specs.List.{onto_first, AllZip}
use Rattle.std.proofs.lemmas.Bool.{cases_lt, cases_eq, ne_eqb, eq-eqb}
use Rattle.std.proofs.lemmas.List.Elements.{All-cons, All-head, All-tail}
use Rattle.std.proofs.lemmas.List.Splits.{slice_split-cons_yes, slice_split-cons_no}
use Rattle.text_io.specs.Lines.{words_of}
use Rattle.text_io.specs.Numerals.{numeral, IsPlain}
use Rattle.text_io.proofs.Numerals.{IsPlain-numeral}
use Rattle.text_io.proofs.Digits.{plain_or_number}
use Rattle.schedule_text.specs.ShortLines.{IsDigit, Shortens, nothing, space, early, digit, other}

-- more bytes of a line
pub Shortens-append : {r m q : ℕ} {s k t l : List ℕ} → Shortens r s k m → Shortens m t l q → Shortens r (s ++ t) (k ++ l) q
Shortens-append nothing later = later
Shortens-append (space is more) later = space is (Shortens-append more later)
Shortens-append (early is more) later = early is (Shortens-append more later)
Shortens-append (digit is more) later = digit is (Shortens-append more later)
Shortens-append (other is not more) later = other is not (Shortens-append more later)

-- what is kept of one byte, whichever it is
pub Shortens-byte : (r b : ℕ) → (k : List ℕ) × (q : ℕ) × Shortens r (b ∷ []) k q
Shortens-byte r b = elim (cases_eq b 32) [ inl is ↦ (b ∷ [], 21, space is nothing) | inr is ↦ by r is ]
  where
    behind : b ≢ 32 → (k : List ℕ) × (q : ℕ) × Shortens 0 (b ∷ []) k q
    behind is =
        elim (cases_lt b 48) [
          | inl low ↦ (b ∷ [], 0, other is (λ d. omega (arith, d.0, low)) nothing)
          | inr low ↦ elim (cases_lt 57 b) [
            | inl high ↦ (b ∷ [], 0, other is (λ d. omega (arith, d.1, high)) nothing)
            | inr high ↦ ([], 0, digit (low, high) nothing)
          ]
        ]

    by : (r : ℕ) → b ≢ 32 → (k : List ℕ) × (q : ℕ) × Shortens r (b ∷ []) k q
    by zero is = behind is
    by (suc r) is = (b ∷ [], r, early is nothing)

-- the same of the bytes of one word
pub data TruncatedWord : ℕ → List ℕ → List ℕ → Type 0 where
  end : {room : ℕ} → TruncatedWord room [] []
  first : {room byte : ℕ} {word kept : List ℕ} → TruncatedWord room word kept → TruncatedWord (suc room) (byte ∷ word) (byte ∷ kept)
  dropped : {byte : ℕ} {word kept : List ℕ} → IsDigit byte → TruncatedWord 0 word kept → TruncatedWord 0 (byte ∷ word) kept
  held : {byte : ℕ} {word kept : List ℕ} → ¬ IsDigit byte → TruncatedWord 0 word kept → TruncatedWord 0 (byte ∷ word) (byte ∷ kept)

-- a word of which little is kept is kept whole
pub TruncatedWord-whole : {r : ℕ} {w k : List ℕ} → TruncatedWord r w k → length k < r → w ≡ k
TruncatedWord-whole end short = refl
TruncatedWord-whole (first {byte = b} more) short = ap (λ (l : List ℕ). b ∷ l) (TruncatedWord-whole more (omega arith))
TruncatedWord-whole (dropped is more) short = absurd (omega (arith, short))
TruncatedWord-whole (held is more) short = absurd (omega (arith, short))

-- a short word is kept whole
pub TruncatedWord-short : {r : ℕ} {w k : List ℕ} → TruncatedWord r w k → length w ≤ r → k ≡ w
TruncatedWord-short end short = refl
TruncatedWord-short (first {byte = b} more) short = ap (λ (l : List ℕ). b ∷ l) (TruncatedWord-short more (omega arith))
TruncatedWord-short (dropped is more) short = absurd (omega (arith, short))
TruncatedWord-short (held is more) short = absurd (omega (arith, short))

-- of digits no more are kept than there is room for
pub TruncatedWord-digits : {r : ℕ} {w k : List ℕ} → TruncatedWord r w k → All IsDigit w → All IsDigit k × (length k ≤ r)
TruncatedWord-digits end all = (all, omega arith)
TruncatedWord-digits (first {byte = b} {word = w} {kept = k} more) all =
    let rest = TruncatedWord-digits more (All-tail IsDigit b w all) in
    (All-cons IsDigit b k (All-head IsDigit b w all) rest.0, omega (arith, rest.1))
TruncatedWord-digits (dropped {byte = b} {word = w} is more) all = TruncatedWord-digits more (All-tail IsDigit b w all)
TruncatedWord-digits (held {byte = b} {word = w} is more) all = absurd (is (All-head IsDigit b w all))

-- where digits alone are kept, all are digits
pub TruncatedWord-back : {r : ℕ} {w k : List ℕ} → TruncatedWord r w k → All IsDigit k → All IsDigit w
TruncatedWord-back end all = all
TruncatedWord-back (first {byte = b} {word = w} {kept = k} more) all =
    All-cons IsDigit b w (All-head IsDigit b k all) (TruncatedWord-back more (All-tail IsDigit b k all))
TruncatedWord-back (dropped {byte = b} {word = w} is more) all = All-cons IsDigit b w is (TruncatedWord-back more all)
TruncatedWord-back (held {byte = b} {kept = k} is more) all = absurd (is (All-head IsDigit b k all))

-- the first byte is kept
record KeepsFirst (w k : List ℕ) : Type 0 where
  same : get_or k 0 0 ≡ get_or w 0 0
  forth : 0 < length w → 0 < length k
  back : 0 < length k → 0 < length w

TruncatedWord-first : (r : ℕ) {w k : List ℕ} → TruncatedWord (suc r) w k → KeepsFirst w k
TruncatedWord-first r end = record { same = refl; forth = λ some. some; back = λ some. some }
TruncatedWord-first r (first more) = record { same = refl; forth = λ some. omega arith; back = λ some. omega arith }

-- what is kept of a number is a number
IsPlain-truncated : (w k : List ℕ) → TruncatedWord 21 w k → IsPlain w → IsPlain k
IsPlain-truncated w k truncated plain =
    let begins = TruncatedWord-first 20 truncated in
    record {
      some = begins.forth plain.some;
      digits = (TruncatedWord-digits truncated plain.digits).0;
      first = λ zero. let one : length w ≡ 1 = plain.first (sym begins.same ∙ zero) in ap length (TruncatedWord-short truncated (omega (arith, one))) ∙ one;
    }

-- and of nothing else
IsPlain-whole : (w k : List ℕ) → TruncatedWord 21 w k → IsPlain k → IsPlain w
IsPlain-whole w k truncated plain =
    let begins = TruncatedWord-first 20 truncated in
    record {
      some = begins.back plain.some;
      digits = TruncatedWord-back truncated plain.digits;
      first = λ zero. let one : length k ≡ 1 = plain.first (begins.same ∙ zero) in ap length (TruncatedWord-whole truncated (omega (arith, one))) ∙ one;
    }

pub numeral-truncated : (n : ℕ) (k : List ℕ) → TruncatedWord 21 (numeral n) k → (m : ℕ) × (k ≡ numeral m)
numeral-truncated n k truncated = (plain_or_number k).0 (IsPlain-truncated (numeral n) k truncated (IsPlain-numeral n))

pub numeral-whole : (m : ℕ) (w : List ℕ) → TruncatedWord 21 w (numeral m) → (n : ℕ) × (w ≡ numeral n)
numeral-whole m w truncated = (plain_or_number w).0 (IsPlain-whole w (numeral m) truncated (IsPlain-numeral m))

-- at most 21 digits of a number are kept
pub length-numeral-truncated : (n : ℕ) (k : List ℕ) → TruncatedWord 21 (numeral n) k → length k ≤ 21
length-numeral-truncated n k truncated = (TruncatedWord-digits truncated (IsPlain-numeral n).digits).1

-- the words of a line, and those of what is kept of it, where the first one begins with so much room
abbrev TruncatedWords : ℕ → List (List ℕ) → List (List ℕ) → Type 0
TruncatedWords r [] ks = ⊥
TruncatedWords r (w ∷ ws) [] = ⊥
TruncatedWords r (w ∷ ws) (k ∷ ks) = TruncatedWord r w k × AllZip (TruncatedWord 21) ws ks

TruncatedWords-all : (ws ks : List (List ℕ)) → TruncatedWords 21 ws ks → AllZip (TruncatedWord 21) ws ks
TruncatedWords-all [] ks truncated = absurd truncated
TruncatedWords-all (w ∷ ws) [] truncated = absurd truncated
TruncatedWords-all (w ∷ ws) (k ∷ ks) truncated = truncated

TruncatedWords-first : (r b : ℕ) (ws ks : List (List ℕ)) → TruncatedWords r ws ks → TruncatedWords (suc r) (onto_first b ws) (onto_first b ks)
TruncatedWords-first r b [] ks truncated = absurd truncated
TruncatedWords-first r b (w ∷ ws) [] truncated = absurd truncated
TruncatedWords-first r b (w ∷ ws) (k ∷ ks) truncated = (first truncated.0, truncated.1)

TruncatedWords-dropped : (b : ℕ) (ws ks : List (List ℕ)) → IsDigit b → TruncatedWords 0 ws ks → TruncatedWords 0 (onto_first b ws) ks
TruncatedWords-dropped b [] ks is truncated = absurd truncated
TruncatedWords-dropped b (w ∷ ws) [] is truncated = absurd truncated
TruncatedWords-dropped b (w ∷ ws) (k ∷ ks) is truncated = (dropped is truncated.0, truncated.1)

TruncatedWords-held : (b : ℕ) (ws ks : List (List ℕ)) → ¬ IsDigit b → TruncatedWords 0 ws ks → TruncatedWords 0 (onto_first b ws) (onto_first b ks)
TruncatedWords-held b [] ks is truncated = absurd truncated
TruncatedWords-held b (w ∷ ws) [] is truncated = absurd truncated
TruncatedWords-held b (w ∷ ws) (k ∷ ks) is truncated = (held is truncated.0, truncated.1)

abbrev at_space : ℕ → Bool
at_space b = b == 32

words_from : {r q : ℕ} {s k : List ℕ} → Shortens r s k q → TruncatedWords r (words_of s) (words_of k)
words_from nothing = (end, tt)
words_from (space {byte = b} {says = s} {kept = k} is more) =
    rw (slice_split-cons_yes at_space b s (eq-eqb b 32 is), slice_split-cons_yes at_space b k (eq-eqb b 32 is)) (end, TruncatedWords-all (words_of s) (words_of k) (words_from more))
words_from (early {room = r} {byte = b} {says = s} {kept = k} is more) =
    rw (slice_split-cons_no at_space b s (ne_eqb b 32 is), slice_split-cons_no at_space b k (ne_eqb b 32 is)) (TruncatedWords-first r b (words_of s) (words_of k) (words_from more))
words_from (digit {byte = b} {says = s} {kept = k} is more) =
    let plain : b ≢ 32 = λ e. omega (arith, e, is.0) in
    rw (slice_split-cons_no at_space b s (ne_eqb b 32 plain)) (TruncatedWords-dropped b (words_of s) (words_of k) is (words_from more))
words_from (other {byte = b} {says = s} {kept = k} is not more) =
    rw (slice_split-cons_no at_space b s (ne_eqb b 32 is), slice_split-cons_no at_space b k (ne_eqb b 32 is)) (TruncatedWords-held b (words_of s) (words_of k) not (words_from more))

-- the words of what is kept of a line are what is kept of its words
pub words_truncated : (s k : List ℕ) (q : ℕ) → Shortens 21 s k q → AllZip (TruncatedWord 21) (words_of s) (words_of k)
words_truncated s k q truncated = TruncatedWords-all (words_of s) (words_of k) (words_from truncated)
