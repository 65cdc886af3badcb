-- What a memory keeps: the shared words, which nodes were set aside, and for how many nodes there is room.
use Rattle.std.specs.Prelude.{ℕ, nat_lt, ◌&&◌, if◌then◌else◌, ◌+◌, ◌-◌, ◌++◌, Bool, true, false, List, length, replicate, Option, Some, None, slice_set}
use Rattle.counted_ref.specs.Ref.{ref, null}
use Rattle.line_steps.specs.Memory.{blank, Shared, Action, performed}

-- the shared words, the nodes set aside, and for how many nodes from 1 on there is room
pub record Memory : Type 0 where
  pub words : Shared
  pub aside : List Bool
  pub room : ℕ

-- a list that goes on with one item up to a length
abbrev pub padded : {X : Type 0} → ℕ → X → List X → List X
padded size x xs = xs ++ replicate (size - length xs) x

-- the shared words at the start: node 1 is the dummy, and no other node was used
abbrev pub first_words : ℕ → Shared
first_words nodes =
    record {
      fresh = 1;
      free = null;
      head = ref 1 0;
      tail = ref 1 0;
      tail_lock = 0;
      head_lock = 0;
      nodes = replicate nodes blank;
    }

-- the memory at the start: no node was set aside, and there is room for node 1
abbrev pub first_memory : ℕ → Memory
first_memory size = record { words = first_words size; aside = replicate size false; room = 1 }

-- the memory after an access of its words
abbrev pub accessed : Action → Memory → Memory
accessed action m = record m { words = performed action m.words }

-- the flags of the nodes set aside, after a step that may set one aside
abbrev pub aside_after : List Bool → Option ℕ → List Bool
aside_after aside None = aside
aside_after aside (Some node) = slice_set aside (node - 1) true

-- the room after one node more was made room for, where it was less than enough and nodes are left
abbrev pub room_after : (size enough room : ℕ) → ℕ
room_after size enough room = if nat_lt room enough && nat_lt room size then room + 1 else room

-- the memory with room for one node more, where it was less than enough and nodes are left
abbrev pub grown : (enough : ℕ) → Memory → Memory
grown enough m = record m { room = room_after (length m.words.nodes) enough m.room }
