-- A counted reference: a node number and a count, and the word that holds both, split into so many node bits and the rest.
use Rattle.std.specs.Prelude.{ℕ, ◌+◌, ◌-◌, ◌*◌, ◌/◌, ◌%◌, ◌^◌, ◌<◌, ◌≤◌, Bool, ◌&&◌, nat_eq}

-- a counted reference: the number of a node, and a count
pub record Ref : Type 0 where
  pub node : ℕ
  pub count : ℕ

-- so many of a word's bits, the lowest ones, may hold the node
pub record IsSplit (bits : ℕ) : Type 0 where
  pub least : 16 ≤ bits
  pub most : bits ≤ 32

-- how many of a word's bits hold the count, the other ones
abbrev pub count_bits : (bits : ℕ) → ℕ
count_bits bits = 64 - bits

-- the number that no node has, and a closed end: all node bits are set
abbrev pub reserved_node : (bits : ℕ) → ℕ
reserved_node bits = 2 ^ bits - 1

-- the word whose count bits are set and whose node bits are not
abbrev pub count_mask : (bits : ℕ) → ℕ
count_mask bits = 2 ^ 64 - 2 ^ bits

-- a reference is in range: its node and its count fit their bits
pub record IsRef (bits : ℕ) (r : Ref) : Type 0 where
  pub node : r.node < 2 ^ bits
  pub count : r.count < 2 ^ count_bits bits

-- the reference of a node with a count
abbrev pub ref : ℕ → ℕ → Ref
ref node count = record { node = node; count = count }

-- the reference of no node, never counted
abbrev pub null : Ref
null = ref 0 0

-- whether a reference is of no node, whatever its count
abbrev pub is_null : Ref → Bool
is_null r = nat_eq r.node 0

-- the closed end with a count: nothing is linked behind it any more
abbrev pub shut_ref : (bits : ℕ) → ℕ → Ref
shut_ref bits count = ref (reserved_node bits) count

-- whether a reference is a closed end, whatever its count
abbrev pub is_shut : (bits : ℕ) → Ref → Bool
is_shut bits r = nat_eq r.node (reserved_node bits)

-- whether two references have the same node and the same count
abbrev pub same_ref : Ref → Ref → Bool
same_ref a b = nat_eq a.node b.node && nat_eq a.count b.count

-- the word of a reference: the count above the node
abbrev pub ref_word : (bits : ℕ) → Ref → ℕ
ref_word bits r = r.count * 2 ^ bits + r.node

-- the reference that a word holds: its low bits as the node, and the others as the count
abbrev pub ref_of : (bits : ℕ) → ℕ → Ref
ref_of bits word = ref (word % 2 ^ bits) (word / 2 ^ bits)
