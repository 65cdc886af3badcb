-- What C passes of a call's value, and gets of it.
use Rattle.std.specs.Prelude.{◌≡◌, ℕ, ◌<◌, ◌≤◌, ◌^◌, Option, Some, None}
use Rattle.history.specs.Limits.{body_bits}
use Rattle.msq_c.specs.declared.words.MsqWords.{MsqWords}

-- which value a word W is that C passes, and that it is none; what lies there after a call, by its value and what lay there; and the
-- word of the call, as C holds it
pub record Passing (A W : Type 0) : Type 1 where
  pub is : W → A → Type 0
  pub none : W → Type 0
  pub left : Option A → W → W
  pub kept : Option A → ℕ

-- the word of a call: its value, or 0 where it has none
abbrev pub word_of : Option ℕ → ℕ
word_of (Some value) = value
word_of None = 0

-- the words of a call in its caller's memory: its value, or what lay there where it has none
abbrev pub words_after : Option MsqWords → MsqWords → MsqWords
words_after (Some value) w = value
words_after None w = w

-- a number is a word below 2^48, and is left as the call's word
abbrev pub of_numbers : Passing ℕ ℕ
of_numbers = record {
  is = λ word value. (value ≡ word) × (word < 2 ^ body_bits);
  none = λ word. 2 ^ body_bits ≤ word;
  left = λ value word. word_of value;
  kept = word_of;
}

-- three words are a value, whatever they are; a call has no word of its own
abbrev pub of_words : Passing MsqWords MsqWords
of_words = record {
  is = λ words value. value ≡ words;
  none = λ words. ⊥;
  left = words_after;
  kept = λ value. 0;
}
