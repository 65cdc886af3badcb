-- What is left in a ring, by the words of its table.
use Rattle.std.specs.Prelude.{ℕ, zero, suc, ◌+◌, ◌*◌, ◌%◌, ◌^◌, ◌≤◌, Bool, nat_le, List, [], ◌∷◌, length, slice_index_or}
use Rattle.history.specs.declared.operations.Taken.{Taken}
use Rattle.ring_queue.specs.Words.{slot_word}
use Rattle.ring_queue.specs.Steps.{taken_in}

-- the word of a place
abbrev pub word_of : (slots : ℕ) → List ℕ → (place : ℕ) → ℕ
word_of slots words place = slice_index_or words (slot_word (place % slots)) 0

-- the values of so many places from one on
abbrev pub values_from : (slots : ℕ) → List ℕ → (place count : ℕ) → List Taken
values_from slots words place zero = []
values_from slots words place (suc k) = taken_in (word_of slots words place) ∷ values_from slots words (place + 1) k

-- whether the queue was shut
abbrev pub was_shut_in : List ℕ → Bool
was_shut_in words = nat_le (2 ^ 62) (slice_index_or words 0 0)

-- the words of a table with so many slots, one at least, and flags behind them or not
pub record HasWords (slots : ℕ) (words : List ℕ) : Type 0 where
  pub some : 1 ≤ slots
  pub wide : 32 + 2 * slots ≤ length words
