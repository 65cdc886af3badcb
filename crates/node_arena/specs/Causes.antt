-- What the last step of a refused call can't have been.
use Rattle.std.specs.Prelude.{◌≡◌, ◌⊎◌, List, [], ◌∷◌, ◌++◌}
use Rattle.line_table.specs.declared.lines.Line.{Line}
use Rattle.line_table.specs.declared.lines.Line.TheVariants.{N4, N5}
use Rattle.history.specs.declared.refusals.Refusal.TheVariants.{NoNode}
use Rattle.node_arena.specs.Traces.{Event}
use Rattle.node_arena.specs.Arenas.{Arena}
use Rattle.node_arena.specs.declared.seats.Seat.{Seat}
use Rattle.node_arena.specs.Paths.{added, MetCause}

-- a call's last step was made at this line
pub record EndsAt {T : Type 0} (s t : Seat T) (l : Line) : Type 0 where
  pub before : List Event
  pub last : Event
  pub path : added s t ≡ before ++ last ∷ []
  pub at : last.line ≡ l

-- no call whose last step was the exchange that takes a node, won or lost, met the cause of NoNode
abbrev pub TakersMeetNoCause : Type 0 → Type 0
TakersMeetNoCause T = (r : Arena) (s t : Seat T) → EndsAt s t N4 ⊎ EndsAt s t N5 → MetCause r s t NoNode → ⊥
