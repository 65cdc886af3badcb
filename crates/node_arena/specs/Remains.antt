-- What is left of a queue, by the words of its table.
use Rattle.std.specs.Prelude.{◌≡◌, ℕ, ◌+◌, ◌*◌, ◌<◌, ◌≤◌, Bool, true, false, List, [], ◌∷◌, length, slice_index}
use Rattle.counted_ref.specs.Ref.{Ref, ref_of, reserved_node}
use Rattle.history.specs.declared.operations.Taken.{Taken}
use Rattle.line_steps.specs.Words.{value_of}

-- the reference in the word at a place
abbrev pub ref_at : (bits : ℕ) → List ℕ → ℕ → Ref
ref_at bits words place = ref_of bits (slice_index words place)

-- both words of a node are there
abbrev pub HasNode : List ℕ → (node : ℕ) → Type 0
HasNode words node = 5 + 2 * node < length words

-- the number at the end of a queue's chain: that of a closed end where the queue is shut, else null
abbrev pub end_of : (bits : ℕ) → (shut : Bool) → ℕ
end_of bits true = reserved_node bits
end_of bits false = 0

-- from a node on, where each names the next one and the last one the chain's end, the nodes have these values
abbrev pub HaveValues : (bits : ℕ) → List ℕ → (shut : Bool) → (node : ℕ) → List Taken → Type 0
HaveValues bits words shut node [] = node ≡ end_of bits shut
HaveValues bits words shut node (value ∷ values) =
    (1 ≤ node) × (node < reserved_node bits) × HasNode words node × (value ≡ value_of (slice_index words (5 + 2 * node))) ×
    HaveValues bits words shut (ref_at bits words (4 + 2 * node)).node values

-- from a node on there are some values, no more than there is room for, nor than words
pub record HasValues (bits : ℕ) (words : List ℕ) (node most : ℕ) : Type 0 where
  pub shut : Bool
  pub values : List Taken
  pub chain : HaveValues bits words shut node values
  pub room : length values ≤ most
  pub few : length values ≤ length words

-- the node behind Head's
abbrev pub front_of : (bits : ℕ) → List ℕ → ℕ
front_of bits words = (ref_at bits words (4 + 2 * (ref_at bits words 2).node)).node

-- these are the values of a queue, shut or not, the front first: those from the node behind Head's on
abbrev pub AreLeft : (bits : ℕ) → List ℕ → (shut : Bool) → List Taken → Type 0
AreLeft bits words shut values = HaveValues bits words shut (front_of bits words) values

-- the words of a queue, with room for its values
pub record IsQueue (bits : ℕ) (words : List ℕ) (room : ℕ) : Type 0 where
  pub head : 2 < length words
  pub dummy : HasNode words (ref_at bits words 2).node
  pub behind : HasValues bits words (front_of bits words) room
