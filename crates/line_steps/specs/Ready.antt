-- When a step can be taken: the numbers of a setup and of an actor's registers that can be used.
use Rattle.std.specs.Prelude.{ℕ, ◌^◌, ◌<◌, ◌≤◌}
use Rattle.counted_ref.specs.Ref.{IsSplit, reserved_node, count_bits}
use Rattle.line_table.specs.declared.lines.Line.{Line}
use Rattle.line_table.specs.declared.lines.Line.TheVariants.{D12, B4}
use Rattle.line_steps.specs.declared.actors.Setup.{Setup}
use Rattle.line_steps.specs.Actors.{Actor}

-- the numbers of a setup fit the parts of a reference
pub record IsCounted (s : Setup) : Type 0 where
  pub split : IsSplit s.bits
  pub size : s.size < reserved_node s.bits
  pub limit : s.limit < 2 ^ count_bits s.bits

-- the register `next` names a node for which there is room where the line reads through it: elsewhere it may be a closed end
abbrev pub ReadsFit : Line → (room : ℕ) → Actor → Type 0
ReadsFit D12 room a = a.next.node ≤ room
ReadsFit B4 room a = a.next.node ≤ room
ReadsFit l room a = Unit {0}

-- the registers of an actor can be used: their numbers are in range, and there is room for the nodes that they name
pub record RegistersFit (s : Setup) (room : ℕ) (a : Actor) : Type 0 where
  pub some : 1 ≤ room
  pub few : room ≤ s.size
  pub f : a.f ≤ s.size
  pub node : a.node ≤ room
  pub mark : a.mark ≤ s.limit
  pub top_node : a.top.node ≤ room
  pub top_count : a.top.count ≤ s.limit
  pub tail_node : a.tail.node ≤ room
  pub tail_count : a.tail.count ≤ s.limit
  pub head_node : a.head.node ≤ room
  pub head_count : a.head.count ≤ s.limit
  pub next_count : a.next.count ≤ s.limit
