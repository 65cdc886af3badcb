-- An arena, as clauses see it: its plan, and the key and the name of its table.
use Rattle.atomic_table.specs.Seated.{TableId}
use Rattle.node_arena.specs.Plans.{Layout}

-- an arena
pub record Arena : Type 0 where
  pub plan : Layout
  pub key : Layout
  pub id : TableId

-- an arena by its parts
abbrev pub arena_of : Layout → Layout → TableId → Arena
arena_of plan key id = record { plan = plan; key = key; id = id }
