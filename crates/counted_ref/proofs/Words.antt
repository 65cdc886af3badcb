-- Words and the references that they hold, by any split.
use Rattle.std.proofs.Common.{ℕ, ◌≡◌, ◌+◌, ◌-◌, ◌*◌, ◌/◌, ◌%◌, ◌^◌, ◌<◌, ◌≤◌, inl, inr, Bool, true, false, ◌&&◌, nat_eq, bit_and, refl, sym, ap, subst, ◌∙◌, lit≤, arith}
use Rattle.std.proofs.lemmas.Bool.{eq-eqb, eqb-true}
use Rattle.std.proofs.lemmas.Bool.Decides.{eqb_tells}
use Rattle.std.proofs.lemmas.Nat.{pow-add, pow_pos, mul-add-lt, shr_high, mod_low, shr_below, shl_whole, mod_below}
use Rattle.std.proofs.Math.Nat.{pow-le-pow_right}
use Rattle.std.proofs.lemmas.Nat.Bits.{and_high_mask}
use Rattle.counted_ref.specs.Ref.{Ref, IsSplit, IsRef, count_bits, count_mask, ref, shut_ref, same_ref, ref_word, ref_of}

-- references are equal where node and count are
pub equal_refs : (a b : Ref) → a.node ≡ b.node → a.count ≡ b.count → a ≡ b
equal_refs a b n c = λ i. record { node = n i; count = c i }

module _ (bits : ℕ) (s : IsSplit bits) where
  -- node bits and count bits are 64
  pub all_bits : bits + (64 - bits) ≡ 64
  all_bits = let h = s.most in omega arith

  pub count_bits_first : (64 - bits) + bits ≡ 64
  count_bits_first = let h = s.most in omega arith

  -- the node bits hold 65,536 numbers or more, and 4,294,967,296 or fewer
  pub span_least : 2 ^ 16 ≤ 2 ^ bits
  span_least = pow-le-pow_right (lit≤ tt) s.least

  pub span_most : 2 ^ bits ≤ 2 ^ 32
  span_most = pow-le-pow_right (lit≤ tt) s.most

  pub count_span_least : 2 ^ 32 ≤ 2 ^ (64 - bits)
  count_span_least = let h : 32 ≤ 64 - bits = (let h = s.most in omega arith) in pow-le-pow_right (lit≤ tt) h

  pub count_span_most : 2 ^ (64 - bits) ≤ 2 ^ 48
  count_span_most = let h : 64 - bits ≤ 48 = (let h = s.least in omega arith) in pow-le-pow_right (lit≤ tt) h

  -- both spans make a word's
  pub spans : 2 ^ bits * 2 ^ (64 - bits) ≡ 2 ^ 64
  spans = sym (pow-add 2 bits (64 - bits)) ∙ ap (λ k. 2 ^ k) all_bits

  -- the word of a reference in range fits 64 bits
  pub ref_word_fits : (r : Ref) → IsRef bits r → ref_word bits r < 2 ^ 64
  ref_word_fits r h =
      subst (λ k. ref_word bits r < k) spans (mul-add-lt r.count (2 ^ bits) r.node (2 ^ (64 - bits)) h.count h.node)

  -- the reference that the word of a reference in range holds is that reference
  pub ref_of-ref_word : (r : Ref) → IsRef bits r → ref_of bits (ref_word bits r) ≡ r
  ref_of-ref_word r h =
      equal_refs (ref_of bits (ref_word bits r)) r (mod_low r.count bits r.node h.node) (shr_high r.count bits r.node h.node)

  -- references in range that have the same word are equal
  pub refs_apart : (a b : Ref) → IsRef bits a → IsRef bits b → ref_word bits a ≡ ref_word bits b → a ≡ b
  refs_apart a b ha hb e = sym (ref_of-ref_word a ha) ∙ ap (ref_of bits) e ∙ ref_of-ref_word b hb

  -- the count of a word of 64 bits fits the count bits
  pub count_fits : (w : ℕ) → w < 2 ^ 64 → w / 2 ^ bits < 2 ^ (64 - bits)
  count_fits w h = shr_below w (64 - bits) bits (subst (λ k. w < 2 ^ k) (sym count_bits_first) h)

  -- a word of 64 bits holds a reference in range
  pub holds_ref : (w : ℕ) → w < 2 ^ 64 → IsRef bits (ref_of bits w)
  holds_ref w h = record { node = mod_below w (2 ^ bits) (pow_pos bits); count = count_fits w h }

  -- a count's bits fit above those of the node
  pub packed : (count : ℕ) → count < 2 ^ count_bits bits → (count * 2 ^ bits) % 2 ^ 64 ≡ count * 2 ^ bits
  packed count k = let e : count_bits bits + bits ≤ 64 = (let a = s.most in omega arith) in shl_whole count (count_bits bits) bits 64 k e

  -- a closed end is in range
  pub shut_fits : (count : ℕ) → count < 2 ^ count_bits bits → IsRef bits (shut_ref bits count)
  shut_fits count k = record { node = (let a = span_least in omega arith); count = k }

-- references that are tested to be the same are equal
pub same_ref-true : (a b : Ref) → same_ref a b ≡ true → a ≡ b
same_ref-true a b e = go (nat_eq a.node b.node) (nat_eq a.count b.count) (eqb-true a.node b.node) (eqb-true a.count b.count) e
  where
    go : (x y : Bool) → (x ≡ true → a.node ≡ b.node) → (y ≡ true → a.count ≡ b.count) → (x && y) ≡ true → a ≡ b
    go true true f g e = equal_refs a b (f refl) (g refl)
    go true false f g e = cc
    go false y f g e = cc

-- a reference is the same as itself
pub same_ref-self : (r : Ref) → same_ref r r ≡ true
same_ref-self r = ap (λ x. x && nat_eq r.count r.count) (eq-eqb r.node r.node refl) ∙ eq-eqb r.count r.count refl

-- equal references are tested to be the same
pub same_ref-equal : (a b : Ref) → a ≡ b → same_ref a b ≡ true
same_ref-equal a b e = ap (λ r. same_ref a r) (sym e) ∙ same_ref-self a

-- references that are not equal are tested to be other ones
pub same_ref-false : (a b : Ref) → (a ≡ b → ⊥) → same_ref a b ≡ false
same_ref-false a b h = go (same_ref a b) (same_ref-true a b)
  where
    go : (x : Bool) → (x ≡ true → a ≡ b) → x ≡ false
    go true f = absurd (h (f refl))
    go false f = refl

-- references in range are the same exactly where their words are
pub same_word : (bits : ℕ) → IsSplit bits → (a b : Ref) → IsRef bits a → IsRef bits b → same_ref a b ≡ nat_eq (ref_word bits a) (ref_word bits b)
same_word bits s a b ha hb = elim (eqb_tells (ref_word bits a) (ref_word bits b)) [
  | inl t ↦ same_ref-equal a b (refs_apart bits s a b ha hb t.1) ∙ sym t.0
  | inr f ↦ same_ref-false a b (λ e. f.1 (ap (ref_word bits) e)) ∙ sym f.0
]

-- clearing the node bits of a word keeps its count
pub cleared_word : (bits : ℕ) → IsSplit bits → (r : Ref) → IsRef bits r → bit_and (ref_word bits r) (count_mask bits) ≡ ref_word bits (ref 0 r.count)
cleared_word bits s r h =
    let low : bits ≤ 64 = let a = s.most in omega arith in
    and_high_mask 64 bits low (ref_word bits r) (ref_word_fits bits s r h) ∙
    ap (λ c. c * 2 ^ bits) (shr_high r.count bits r.node h.node) ∙
    (let e : r.count * 2 ^ bits ≡ r.count * 2 ^ bits + 0 = omega arith in e)
