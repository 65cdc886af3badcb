-- What a word's number says of the reference or the value that it holds.
use Rattle.std.proofs.Common.{◌≡◌, ℕ, ◌/◌, ◌%◌, ◌^◌, ap, ◌∙◌, arith}
use Rattle.counted_ref.specs.Ref.{Ref, IsSplit, IsRef, ref_word, ref_of}
use Rattle.counted_ref.proofs.Words.{ref_of-ref_word}
use Rattle.history.specs.declared.operations.Taken.{Taken}
use Rattle.step_machine.specs.Words.{value_word}
use Rattle.step_machine.specs.Tables.{ValueFits}

-- a reference in range is read back from its word
pub read_back : (bits : ℕ) → IsSplit bits → (x : Ref) (n : ℕ) → IsRef bits x → n ≡ ref_word bits x → ref_of bits n ≡ x
read_back bits split x n h e = ap (ref_of bits) e ∙ ref_of-ref_word bits split x h

-- a value in range is read back from its word: the seat is in its upper bits, and the body in the 48 lower ones
pub value_parts : (v : Taken) (n : ℕ) → ValueFits v → n ≡ value_word v → (v.from ≡ n / 2 ^ 48) × (v.body ≡ n % 2 ^ 48)
value_parts v n h e = (let b = h.body in omega arith, let b = h.body in omega arith)
