-- Where the words of a ring lie, and what they hold.
use Rattle.std.specs.Prelude.{ℕ, ◌+◌, ◌*◌, ◌/◌, ◌%◌, ◌^◌, Bool, if◌then◌else◌, Option, Some, None}
use Rattle.history.specs.declared.operations.Taken.{Taken}

-- what a place is filled with, as a number: a value, or nothing, the mark of a place that was claimed when the queue was shut
abbrev pub payload : Option Taken → ℕ
payload None = 0
payload (Some v) = v.from * 2 ^ 48 + v.body

-- the parity of a place's lap, in a ring of so many slots
abbrev pub parity : (slots place : ℕ) → ℕ
parity slots place = place / slots % 2

-- the word of a place that is filled
abbrev pub face : (slots place : ℕ) → Option Taken → ℕ
face slots place x = parity slots place * 2 ^ 63 + payload x

-- where the word of a slot lies: Tail and Head lie 128 bytes apart and from the slots, which lie 16 bytes apart
abbrev pub slot_word : (slot : ℕ) → ℕ
slot_word slot = 32 + 2 * slot

-- the word of Tail: how many places were claimed, and whether the queue is shut
abbrev pub tail_word : ℕ → (shut : Bool) → ℕ
tail_word tail shut = if shut then tail + 2 ^ 62 else tail
