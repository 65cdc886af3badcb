-- The table of numbers that holds the shared words: one atomic step on one of its places, and which contents fit it.
use Rattle.std.specs.Prelude.{◌≡◌, ℕ, ◌^◌, ◌<◌, List, nat_eq, Some, slice_index_or, slice_set, bit_and, if◌then◌else◌}
use Rattle.step_machine.specs.Below.{body_bits, actor_bits, IsRef, count_mask, Line, Taken, Actor, Shared, Word, Fresh, Free, Head, Tail, Tail_lock, Head_lock}
use Rattle.step_machine.specs.Below.{Next, Value_of, Content, content, put, Action, load, store, clear, exchange, word, found, performed, action}
use Rattle.step_machine.specs.Machine.{World, actor_of}
use Rattle.step_machine.specs.Words.{encoded, memory_words, index, IsWord}

-- one atomic step on a place of a table: a load, a store, a fetch_and, or a compare-exchange
pub data WordStep : Type 0 where
  load_at : (place : ℕ) → WordStep
  store_at : (place word : ℕ) → WordStep
  and_at : (place mask : ℕ) → WordStep
  exchange_at : (place old new : ℕ) → WordStep

-- the place of a step
abbrev pub word_index : WordStep → ℕ
word_index (load_at p) = p
word_index (store_at p w) = p
word_index (and_at p mask) = p
word_index (exchange_at p old new) = p

-- the table after a step
abbrev pub table_after : WordStep → List ℕ → List ℕ
table_after (load_at p) ws = ws
table_after (store_at p w) ws = slice_set ws p w
table_after (and_at p mask) ws = slice_set ws p (bit_and (slice_index_or ws p 0) mask)
table_after (exchange_at p old new) ws = if nat_eq (slice_index_or ws p 0) old then slice_set ws p new else ws

-- the step of an access
abbrev pub word_step : (bits : ℕ) → Action → WordStep
word_step bits (load x) = load_at (index x)
word_step bits (store x c) = store_at (index x) (encoded bits x c)
word_step bits (clear n) = and_at (index (Next n)) (count_mask bits)
word_step bits (exchange x old new) = exchange_at (index x) (encoded bits x old) (encoded bits x new)

-- a value fits a word: its actor 16 bits, its body 48
pub record ValueFits (v : Taken) : Type 0 where
  pub from : v.from < 2 ^ actor_bits
  pub body : v.body < 2 ^ body_bits

-- a content fits a word of 64 bits
abbrev pub ContentFits : (bits : ℕ) → (x : Word) → Content x → Type 0
ContentFits bits Fresh n = n < 2 ^ 64
ContentFits bits Free r = IsRef bits r
ContentFits bits Head r = IsRef bits r
ContentFits bits Tail r = IsRef bits r
ContentFits bits Tail_lock n = n < 2 ^ 64
ContentFits bits Head_lock n = n < 2 ^ 64
ContentFits bits (Next n) r = IsRef bits r
ContentFits bits (Value_of n) v = ValueFits v

-- each content of the shared words fits its word
abbrev pub SharedFits : (bits : ℕ) → Shared → Type 0
SharedFits bits s = (x : Word) → ContentFits bits x (content x s)

-- what an access compares and writes fits the word that it names
abbrev pub ActionFits : (bits : ℕ) → Action → Type 0
ActionFits bits (load x) = Unit {0}
ActionFits bits (store x c) = ContentFits bits x c
ActionFits bits (clear n) = Unit {0}
ActionFits bits (exchange x old new) = ContentFits bits x old × ContentFits bits x new

-- an access names a word of the table, and what the word holds fits it, as does what the access compares and writes
pub record AccessFits (bits : ℕ) (s : Shared) (a : Action) : Type 0 where
  pub names : IsWord s (word a)
  pub held : ContentFits bits (word a) (found a s)
  pub given : ActionFits bits a

-- reading the word is reading the number at its place of the table
abbrev pub IsReadAtItsPlace : (bits : ℕ) → Shared → Word → Type 0
IsReadAtItsPlace bits s x = slice_index_or (memory_words bits s) (index x) 0 ≡ encoded bits x (content x s)

-- writing a content into the word is writing its number at the word's place of the table
abbrev pub IsWrittenAtItsPlace : (bits : ℕ) → Shared → (x : Word) → Content x → Type 0
IsWrittenAtItsPlace bits s x c = memory_words bits (put x c s) ≡ slice_set (memory_words bits s) (index x) (encoded bits x c)

-- an access makes of the table what its one step on one place makes of it
abbrev pub IsOneStep : (bits : ℕ) → Shared → Action → Type 0
IsOneStep bits s a = memory_words bits (performed a s) ≡ table_after (word_step bits a) (memory_words bits s)

-- this is so of the next access of each actor that has a call
abbrev pub OfEachNextAccess : World → (Action → Type 0) → Type 0
OfEachNextAccess w P =
    (me : ℕ) (a : Actor) (l : Line) → actor_of w me ≡ Some a → a.line ≡ Some l → P (action w.setup me a l)
