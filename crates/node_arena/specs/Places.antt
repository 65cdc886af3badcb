-- Where the words of an arena lie in its table.
use Rattle.std.specs.Prelude.{ℕ, ◌+◌, ◌-◌, List, [], ◌∷◌, length, map, slice_index_or}
use Rattle.std.specs.List.{range_with_len}

-- where the word of an index lies in the table: Fresh and Free, Head and its lock, and Tail and its lock lie 16 words apart,
-- and the words of the nodes follow, packed
abbrev pub place : (index : ℕ) → ℕ
place index = slice_index_or (0 ∷ 1 ∷ 16 ∷ 32 ∷ 33 ∷ 17 ∷ []) index (index + 42)

-- the shared words that lie in a table, in the order of their indexes
abbrev pub shared_words : (table : List ℕ) → List ℕ
shared_words table = map (λ i. slice_index_or table (place i) 0) (range_with_len 0 (length table - 42))
