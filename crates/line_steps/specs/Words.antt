-- The shared words in one table of numbers: the layout, and what the numbers of a table stand for.
use Rattle.std.specs.Prelude.{ℕ, ◌+◌, ◌*◌, ◌/◌, ◌%◌, ◌^◌, ◌<◌, ◌≤◌, List, [], ◌∷◌, length, drop, slice_index_or}
use Rattle.counted_ref.specs.Ref.{ref_word, ref_of}
use Rattle.history.specs.Limits.{body_bits}
use Rattle.history.specs.declared.operations.Taken.{Taken}
use Rattle.line_steps.specs.Actors.{Node}
use Rattle.line_steps.specs.Memory.{blank, Shared, Word, Fresh, Free, Head, Tail, Tail_lock, Head_lock, Next, Value_of, Content}
use Rattle.line_steps.specs.Rooms.{padded}

-- the word of a value: who pushed it above its body
abbrev pub value_word : Taken → ℕ
value_word v = v.from * 2 ^ body_bits + v.body

-- the number that stands for a content of a word
abbrev pub encoded : (bits : ℕ) → (x : Word) → Content x → ℕ
encoded bits Fresh n = n
encoded bits Free r = ref_word bits r
encoded bits Head r = ref_word bits r
encoded bits Tail r = ref_word bits r
encoded bits Tail_lock n = n
encoded bits Head_lock n = n
encoded bits (Next k) r = ref_word bits r
encoded bits (Value_of k) v = value_word v

-- the words of the nodes, two a node
abbrev pub node_words : (bits : ℕ) → List Node → List ℕ
node_words bits [] = []
node_words bits (n ∷ ns) = ref_word bits n.next ∷ value_word n.value ∷ node_words bits ns

-- all shared words, in the order of the table
abbrev pub memory_words : (bits : ℕ) → Shared → List ℕ
memory_words bits s =
    s.fresh ∷ ref_word bits s.free ∷ ref_word bits s.head ∷ ref_word bits s.tail ∷ s.tail_lock ∷ s.head_lock ∷ node_words bits s.nodes

-- the place of a word in the table
abbrev pub index : Word → ℕ
index Fresh = 0
index Free = 1
index Head = 2
index Tail = 3
index Tail_lock = 4
index Head_lock = 5
index (Next n) = 4 + 2 * n
index (Value_of n) = 5 + 2 * n

-- a word of this table: a node's word names one of its nodes
abbrev pub IsWord : Shared → Word → Type 0
IsWord s (Next n) = (1 ≤ n) × (n ≤ length s.nodes)
IsWord s (Value_of n) = (1 ≤ n) × (n ≤ length s.nodes)
IsWord s _ = Unit {0}

-- the value of a word: who pushed it stands in the high bits, its body in the low 48
abbrev pub value_of : ℕ → Taken
value_of word = record { from = word / 2 ^ body_bits; body = word % 2 ^ body_bits }

-- the nodes of a list of words, two words a node
abbrev pub nodes_of : (bits : ℕ) → List ℕ → List Node
nodes_of bits [] = []
nodes_of bits (next ∷ []) = []
nodes_of bits (next ∷ value ∷ words) = record { next = ref_of bits next; value = value_of value } ∷ nodes_of bits words

-- the shared words of so many nodes that a table holds; nodes behind its end are blank
abbrev pub shared_of : (bits size : ℕ) → List ℕ → Shared
shared_of bits size words =
    record {
      fresh = slice_index_or words 0 0;
      free = ref_of bits (slice_index_or words 1 0);
      head = ref_of bits (slice_index_or words 2 0);
      tail = ref_of bits (slice_index_or words 3 0);
      tail_lock = slice_index_or words 4 0;
      head_lock = slice_index_or words 5 0;
      nodes = padded size blank (nodes_of bits (drop 6 words));
    }

-- each word of a table is one of its kind: Fresh has 32 bits, and a lock 16
pub record IsTable (words : List ℕ) : Type 0 where
  pub fresh : slice_index_or words 0 0 < 2 ^ 32
  pub tail_lock : slice_index_or words 4 0 < 2 ^ 16
  pub head_lock : slice_index_or words 5 0 < 2 ^ 16
