-- Decimal numbers of any length, digit by digit.
use Rattle.std.proofs.Common.{◌≡◌, ◌≢◌, ℕ, zero, suc, ◌+◌, ◌/◌, ◌%◌, ◌^◌, ◌<◌, ◌≤◌, ◌⊎◌, List, [], ◌∷◌, ◌++◌, length, get_or, Bool, false, cond, refl, sym, ap, ◌∙◌, arith, append_assoc}
use Rattle.std.specs.Fmt.{decimal, digits_onto, digit_glyph}
use Rattle.std.proofs.lemmas.Fmt.{decimal_digit, decimal_step}
use Rattle.std.proofs.lemmas.Bool.{ne_eqb, eq-eqb, lt-ltb, cases_lt}
use mathlib.Core.Logic.{⊎_elim}
use Rattle.std.proofs.lemmas.List.{length-append}
use Rattle.std.proofs.lemmas.List.Elements.{All-nil, All-cons, All-append, All-weaker}
use Rattle.std.proofs.lemmas.List.{get_or_append_left}
use Rattle.text_io.specs.Lines.{HasNo}
use Rattle.text_io.specs.Numerals.{numeral, IsPlain}

abbrev spell : ℕ → ℕ → List ℕ → List ℕ
spell k n acc = digits_onto k 10 false n acc

abbrev last_glyph : ℕ → ℕ
last_glyph n = digit_glyph false (n % 10)

spell_last : (k n : ℕ) (acc : List ℕ) → n < 10 → spell (suc k) n acc ≡ last_glyph n ∷ acc
spell_last k n acc h = ap (λ t. cond t (last_glyph n ∷ acc) (spell k (n / 10) (last_glyph n ∷ acc))) (eq-eqb (n / 10) 0 (omega arith))

spell_next : (k n : ℕ) (acc : List ℕ) → 10 ≤ n → spell (suc k) n acc ≡ spell k (n / 10) (last_glyph n ∷ acc)
spell_next k n acc h = ap (λ t. cond t (last_glyph n ∷ acc) (spell k (n / 10) (last_glyph n ∷ acc))) (ne_eqb (n / 10) 0 (λ e. omega arith))

-- what is spelled stands in front
spell-append : (k n : ℕ) (acc : List ℕ) → spell k n acc ≡ spell k n [] ++ acc
spell-append zero n acc = refl
spell-append (suc k) n acc =
    ⊎_elim
    (λ l. spell_last k n acc l ∙ ap (λ x. x ++ acc) (sym (spell_last k n [] l)))
    (λ l. spell_next k n acc l ∙ spell-append k (n / 10) (last_glyph n ∷ acc) ∙ sym (append_assoc (spell k (n / 10) []) (last_glyph n ∷ []) acc)
    ∙ ap (λ x. x ++ acc) (sym (spell_next k n [] l ∙ spell-append k (n / 10) (last_glyph n ∷ []))))
    (cases_lt n 10)

-- more room for digits than a number has changes nothing
spell_enough : (j k n : ℕ) (acc : List ℕ) → n < suc j → n < suc k → spell (suc j) n acc ≡ spell (suc k) n acc
spell_enough zero k n acc p q = spell_last zero n acc (omega arith) ∙ sym (spell_last k n acc (omega arith))
spell_enough (suc j) zero n acc p q = spell_last (suc j) n acc (omega arith) ∙ sym (spell_last zero n acc (omega arith))
spell_enough (suc j) (suc k) n acc p q =
    ⊎_elim
    (λ l. spell_last (suc j) n acc l ∙ sym (spell_last (suc k) n acc l))
    (λ l. spell_next (suc j) n acc l ∙ spell_enough j k (n / 10) (last_glyph n ∷ acc) (omega arith) (omega arith) ∙ sym (spell_next (suc k) n acc l))
    (cases_lt n 10)

glyph_is : (d x : ℕ) → d < 10 → x ≡ 48 + d → digit_glyph false d ≡ x
glyph_is d x h e = ap (λ (b : Bool). cond b (48 + d) (87 + d)) (lt-ltb d 10 h) ∙ sym e

-- a number of one digit
pub numeral_digit : (n : ℕ) → n < 10 → numeral n ≡ (48 + n) ∷ []
unfolding numeral
numeral_digit n h = let same : n % 10 ≡ n = omega arith in spell_last n n [] h ∙ ap (λ x. x ∷ []) (glyph_is (n % 10) (48 + n) (omega arith) (omega arith))

-- a number of more digits: those before the last one, and the last one
pub numeral_step : (n : ℕ) → 10 ≤ n → numeral n ≡ numeral (n / 10) ++ (48 + n % 10) ∷ []
unfolding numeral
numeral_step zero h = absurd (omega arith)
numeral_step (suc j) h =
    let n : ℕ = suc j in
    spell_next n n [] h ∙ spell_enough j (n / 10) (n / 10) (last_glyph n ∷ []) (omega arith) (omega arith) ∙ spell-append (suc (n / 10)) (n / 10) (last_glyph n ∷ [])
    ∙ ap (λ x. spell (suc (n / 10)) (n / 10) [] ++ x ∷ []) (glyph_is (n % 10) (48 + n % 10) (omega arith) refl)

-- two lists that end in one element each are the same, and so are the elements
snoc_same : (xs ys : List ℕ) (x y : ℕ) → xs ++ x ∷ [] ≡ ys ++ y ∷ [] → (xs ≡ ys) × (x ≡ y)
snoc_same [] [] x y e = (refl, cc)
snoc_same [] (b ∷ []) x y e = absurd cc
snoc_same [] (b ∷ d ∷ ys) x y e = absurd cc
snoc_same (a ∷ []) [] x y e = absurd cc
snoc_same (a ∷ c ∷ xs) [] x y e = absurd cc
snoc_same (a ∷ xs) (b ∷ ys) x y e =
    let head : a ≡ b = cc in
    let tail : xs ++ x ∷ [] ≡ ys ++ y ∷ [] = cc in
    let more = snoc_same xs ys x y tail in
    (rw (head, more.0) refl, more.1)

-- one digit more makes a plain word longer
IsPlain-push : (xs : List ℕ) (d : ℕ) → d < 10 → IsPlain xs → (get_or xs 0 0 ≡ 48 → ⊥) → IsPlain (xs ++ (48 + d) ∷ [])
IsPlain-push [] d h plain first = absurd (omega (arith, plain.some))
IsPlain-push (x ∷ xs) d h plain first =
    record {
      some = omega arith;
      digits = All-append (λ byte. (48 ≤ byte) × (byte ≤ 57)) (x ∷ xs) ((48 + d) ∷ []) plain.digits
          (All-cons (λ byte. (48 ≤ byte) × (byte ≤ 57)) (48 + d) [] (omega arith, omega arith) (All-nil (λ byte. (48 ≤ byte) × (byte ≤ 57))));
      first = λ e. absurd (first e);
    }

IsPlain-digit : (d : ℕ) → d < 10 → IsPlain ((48 + d) ∷ [])
IsPlain-digit d h = record {
  some = omega arith;
  digits = All-cons (λ byte. (48 ≤ byte) × (byte ≤ 57)) (48 + d) [] (omega arith, omega arith) (All-nil (λ byte. (48 ≤ byte) × (byte ≤ 57)));
  first = λ e. refl;
}

longer : (n : ℕ) → 10 ≤ n → IsPlain (numeral (n / 10)) × (0 < n / 10 → get_or (numeral (n / 10)) 0 0 ≢ 48)
    → IsPlain (numeral (n / 10) ++ (48 + n % 10) ∷ []) × (0 < n → get_or (numeral (n / 10) ++ (48 + n % 10) ∷ []) 0 0 ≢ 48)
longer n l before =
    let nonzero : get_or (numeral (n / 10)) 0 0 ≢ 48 = before.1 (omega arith) in
    let small : n % 10 < 10 = omega arith in (
      IsPlain-push (numeral (n / 10)) (n % 10) small before.0 nonzero,
      λ positive e. nonzero (sym (get_or_append_left (numeral (n / 10)) ((48 + n % 10) ∷ []) 0 0 before.0.some) ∙ e),
    )

-- the digits of a number are plain, and don't begin with 0 unless the number is 0
spelled_plain : (k n : ℕ) → n < k → IsPlain (numeral n) × (0 < n → get_or (numeral n) 0 0 ≢ 48)
spelled_plain zero n small = absurd (omega arith)
spelled_plain (suc k) n small =
    ⊎_elim
    (λ l. rw (numeral_digit n l) (IsPlain-digit n l, λ positive e. omega (arith, e, positive)))
    (λ l. rw (numeral_step n l) (longer n l (spelled_plain k (n / 10) (omega arith))))
    (cases_lt n 10)

-- the digits of a number are plain
pub IsPlain-numeral : (n : ℕ) → IsPlain (numeral n)
IsPlain-numeral n = (spelled_plain (suc n) n (omega arith)).0

-- as many digits as std writes for a number of 64 bits
pub numeral_decimal : (n : ℕ) → n < 2 ^ 64 → numeral n ≡ decimal n
numeral_decimal n small = by (suc n) n (omega arith) small
  where
    by : (k n : ℕ) → n < k → n < 2 ^ 64 → numeral n ≡ decimal n
    by zero n low small = absurd (omega arith)
    by (suc k) n low small =
        ⊎_elim
        (λ l. numeral_digit n l ∙ sym (decimal_digit n l))
        (λ l. numeral_step n l ∙ ap (λ (front : List ℕ). front ++ (48 + n % 10) ∷ []) (by k (n / 10) (omega arith) (omega arith)) ∙ sym (decimal_step n l small))
        (cases_lt n 10)

-- numbers with the same digits are the same
pub numeral_injective : (a b : ℕ) → numeral a ≡ numeral b → a ≡ b
numeral_injective a b e = by (suc a) a b (omega arith) e
  where
    one_or_more : (a b : ℕ) → a < 10 → 10 ≤ b → numeral a ≡ numeral b → ⊥
    one_or_more a b low high e =
        let same : (48 + a) ∷ [] ≡ numeral (b / 10) ++ (48 + b % 10) ∷ [] = sym (numeral_digit a low) ∙ e ∙ numeral_step b high in
        let long : 1 ≡ length (numeral (b / 10) ++ (48 + b % 10) ∷ []) = ap length same in
        let some : 0 < length (numeral (b / 10)) = (IsPlain-numeral (b / 10)).some in
        omega (arith, long, some, length-append (numeral (b / 10)) ((48 + b % 10) ∷ []))

    by : (k a b : ℕ) → a < k → numeral a ≡ numeral b → a ≡ b
    by zero a b low e = absurd (omega arith)
    by (suc k) a b low e =
        ⊎_elim
        (λ l. ⊎_elim
        (λ m. let same : (48 + a) ∷ [] ≡ (48 + b) ∷ [] = sym (numeral_digit a l) ∙ e ∙ numeral_digit b m in let plus : 48 + a ≡ 48 + b = cc in omega (arith, plus))
        (λ m. absurd (one_or_more a b l m e))
        (cases_lt b 10))
        (λ l. ⊎_elim
        (λ m. absurd (one_or_more b a m l (sym e)))
        (λ m.
        let same = snoc_same (numeral (a / 10)) (numeral (b / 10)) (48 + a % 10) (48 + b % 10) (sym (numeral_step a l) ∙ e ∙ numeral_step b m) in
        let front : a / 10 ≡ b / 10 = by k (a / 10) (b / 10) (omega arith) same.0 in
        omega (arith, front, same.1))
        (cases_lt b 10))
        (cases_lt a 10)

-- a byte that is no digit isn't among the digits of a number
pub HasNo-numeral : (byte n : ℕ) → (byte < 48) ⊎ (57 < byte) → HasNo byte (numeral n)
HasNo-numeral byte n other =
    All-weaker (λ b. (48 ≤ b) × (b ≤ 57)) (λ b. b ≢ byte)
    (λ b h e. ⊎_elim (λ below. omega (arith, below, h.0, e)) (λ above. omega (arith, above, h.1, e)) other)
    (numeral n) (IsPlain-numeral n).digits
