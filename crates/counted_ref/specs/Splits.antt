-- Words of a split, as lemmas that the model of a reference cites.
use Rattle.std.proofs.Common.{◌≡◌, ℕ, ◌+◌, ◌*◌, ◌/◌, ◌%◌, ◌^◌, subst, arith}
use Rattle.std.proofs.lemmas.Nat.{shr_split, shr_high, mod_low, pow_pos}
use Rattle.counted_ref.specs.Ref.{null, ref_word, ref_of}

-- a word is that of the reference that it holds
pub word_back : (bits w : ℕ) → ref_word bits (ref_of bits w) ≡ w
word_back bits w = shr_split w bits

-- the word of no node, never counted, is 0
pub null_word : (bits : ℕ) → ref_word bits null ≡ 0
null_word bits = omega arith

-- and 0 holds it
pub null_back : (bits : ℕ) → ref_of bits 0 ≡ null
null_back bits =
    let e : 0 * 2 ^ bits + 0 ≡ 0 = omega arith in
    let n : 0 % 2 ^ bits ≡ 0 = subst (λ w. w % 2 ^ bits ≡ 0) e (mod_low 0 bits 0 (pow_pos bits)) in
    let c : 0 / 2 ^ bits ≡ 0 = subst (λ w. w / 2 ^ bits ≡ 0) e (shr_high 0 bits 0 (pow_pos bits)) in
    λ i. record { node = n i; count = c i }
