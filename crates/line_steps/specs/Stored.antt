-- What the fields of a memory stand for, and what holds of them.
use Rattle.std.specs.Prelude.{◌≡◌, ℕ, ◌+◌, ◌*◌, ◌≤◌, length, false, vec_len}
use Rattle.counted_ref.specs.Ref.{IsSplit}
use Rattle.line_steps.specs.Rooms.{Memory, padded}
use Rattle.line_steps.specs.Words.{shared_of, IsTable}
use Rattle.line_steps.specs.declared.memory.MemoryOf.TheInside.{Inside}

-- the memory that these fields stand for: nodes that have no room yet are blank and not set aside
abbrev pub memory : (bits : ℕ) → Inside bits → Memory
memory bits m =
    record {
      words = shared_of bits m.size m.words.items;
      aside = padded m.size false m.aside.items;
      room = vec_len m.aside;
    }

-- the words are those of a table, with two words and a flag for each node that has room
pub record StoredInvariant (bits : ℕ) (m : Inside bits) : Type 0 where
  pub split : IsSplit bits
  pub table : IsTable m.words.items
  pub words : length m.words.items ≡ 6 + 2 * vec_len m.aside
  pub few : vec_len m.aside ≤ m.size
