-- Lists that are split at a byte.
use Rattle.std.proofs.Common.{◌≡◌, ◌≢◌, ℕ, List, [], ◌∷◌, ◌++◌, length, All, Bool, true, false, refl, ap, ◌∙◌, arith, ◌==◌}
use Rattle.std.specs.Prelude.{not, ◌&&◌}
use Rattle.std.specs.List.{list_all}
use Rattle.std.proofs.lemmas.List.Elements.{All-nil, All-cons, All-head, All-tail, All-weaker}
use Rattle.std.proofs.lemmas.List.Splits.{slice_split_none, slice_split_at, length-slice_split, join_with_byte-slice_split}
use Rattle.std.proofs.lemmas.Bool.{ne_eqb, eq-eqb}
use Rattle.text_io.specs.Lines.{HasNo, spaced, words_of}

-- a line with no space is one word
pub words_of_word : (word : List ℕ) → HasNo 32 word → words_of word ≡ word ∷ []
words_of_word word none =
    slice_split_none (λ b. b == 32) word (All-weaker (λ b. b ≢ 32) (λ b. (b == 32) ≡ false) (λ b h. ne_eqb b 32 h) word none)

-- a word before the first space is the first one
pub words_of_more : (word rest : List ℕ) → HasNo 32 word → words_of (word ++ 32 ∷ rest) ≡ word ∷ words_of rest
words_of_more word rest none =
    slice_split_at (λ b. b == 32) word 32 rest (All-weaker (λ b. b ≢ 32) (λ b. (b == 32) ≡ false) (λ b h. ne_eqb b 32 h) word none) (eq-eqb 32 32 refl)

-- a line has one word at least
pub words_of_some : (says : List ℕ) → words_of says ≢ []
words_of_some says none = let long : length (words_of says) ≡ 0 = ap length none in omega (arith, length-slice_split (λ b. b == 32) says)

-- a test of each byte that computes to true
pub HasNo-tested : (byte : ℕ) (bytes : List ℕ) → list_all (λ b. not (b == byte)) bytes ≡ true → HasNo byte bytes
HasNo-tested byte [] e = All-nil (λ b. b ≢ byte)
HasNo-tested byte (b ∷ bytes) e = by (b == byte) refl (HasNo-tested byte bytes) e
  where
    by : (t : Bool) → (b == byte) ≡ t → (list_all (λ b. not (b == byte)) bytes ≡ true → HasNo byte bytes)
        → (not t && list_all (λ b. not (b == byte)) bytes) ≡ true → HasNo byte (b ∷ bytes)
    by true is rest e = absurd cc
    by false is rest e = All-cons (λ b. b ≢ byte) b bytes (λ same. let yes : (b == byte) ≡ true = eq-eqb b byte same in absurd cc) (rest e)

-- the words of a line, with their spaces, are the line
pub spaced-words_of : (says : List ℕ) → spaced (words_of says) ≡ says
spaced-words_of says = join_with_byte-slice_split 32 says

-- words with no space in them are those of their line
pub words_of-spaced : (word : List ℕ) (words : List (List ℕ)) → All (HasNo 32) (word ∷ words) → words_of (spaced (word ∷ words)) ≡ word ∷ words
words_of-spaced word [] none = words_of_word word (All-head (HasNo 32) word [] none)
words_of-spaced word (next ∷ words) none =
    words_of_more word (spaced (next ∷ words)) (All-head (HasNo 32) word (next ∷ words) none)
    ∙ ap (λ (rest : List (List ℕ)). word ∷ rest) (words_of-spaced next words (All-tail (HasNo 32) word (next ∷ words) none))
