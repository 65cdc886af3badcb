-- The bit of the shut.
use Rattle.std.proofs.Common.{◌≡◌, ◌≢◌, ℕ, zero, suc, ◌+◌, ◌-◌, ◌*◌, ◌/◌, ◌%◌, ◌^◌, ◌<◌, ◌≤◌, bit_and, bit_or, mod-lt, sym, refl, ap, ◌∙◌, subst, arith}
use Rattle.std.specs.Int.Bits.{or_add_and}
use Rattle.std.proofs.lemmas.Nat.Bits.{and_pow}
use Rattle.std.proofs.lemmas.Nat.{and_mask, pow_pos}
use Rattle.ring_queue.specs.Words.{parity}

-- the bit of the shut is set, or was
pub bit_set : (n : ℕ) → n < 2 ^ 62 → bit_or n (2 ^ 62) ≡ n + 2 ^ 62
bit_set n small = let a = or_add_and n (2 ^ 62) in let b = and_pow n 62 in omega (arith, a, b, small)

pub bit_stays : (t : ℕ) → t < 2 ^ 62 → bit_or (t + 2 ^ 62) (2 ^ 62) ≡ t + 2 ^ 62
bit_stays t small = let a = or_add_and (t + 2 ^ 62) (2 ^ 62) in let b = and_pow (t + 2 ^ 62) 62 in omega (arith, a, b, small)

-- the slot of a place, by a mask
pub mask_of : (m n bits : ℕ) → m ≡ 2 ^ bits → bit_and n (m - 1) ≡ n % m
mask_of m n bits e = ap (λ (x : ℕ). bit_and n (x - 1)) e ∙ (and_mask n bits ∙ ap (λ (x : ℕ). n % x) (sym e))

-- the parity of a place's lap, by a bit
pub bit_of : (m n bits : ℕ) → m ≡ 2 ^ bits → bit_and n m ≡ parity m n * m
bit_of m n bits e = ap (λ (x : ℕ). bit_and n x) e ∙ (and_pow n bits ∙ ap (λ (x : ℕ). parity x n * x) (sym e))

even_of : (p m : ℕ) → p < 2 → 1 ≤ m → p * m ≡ 0 → 0 ≡ p
even_of zero m lt some e = refl
even_of (suc zero) m lt some e = absurd (let f : 1 * m ≡ 0 = e in omega (arith, f, some))
even_of (suc (suc p)) m lt some e = absurd (omega (arith, lt))

odd_of : (p m : ℕ) → p < 2 → p * m ≢ 0 → 1 ≡ p
odd_of zero m lt ne = absurd (ne (let f : 0 * m ≡ 0 = omega arith in f))
odd_of (suc zero) m lt ne = refl
odd_of (suc (suc p)) m lt ne = absurd (omega (arith, lt))

pub parity_even : (m n bits : ℕ) → m ≡ 2 ^ bits → bit_and n m ≡ 0 → 0 ≡ parity m n
parity_even m n bits e clear = even_of (parity m n) m (mod-lt (n / m) (omega arith)) (subst (λ (x : ℕ). 1 ≤ x) (sym e) (pow_pos bits)) (sym (bit_of m n bits e) ∙ clear)

pub parity_odd : (m n bits : ℕ) → m ≡ 2 ^ bits → bit_and n m ≢ 0 → 1 ≡ parity m n
parity_odd m n bits e one = odd_of (parity m n) m (mod-lt (n / m) (omega arith)) (λ z. one (bit_of m n bits e ∙ z))
