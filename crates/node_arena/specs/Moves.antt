-- Laws of the steps of an arena that carries values: what a step adds to its seat's own entries says which slots it moves.
use Rattle.std.specs.Prelude.{◌≡◌, ℕ, true, List, [], ◌∷◌, ◌++◌, Some}
use Rattle.line_table.specs.declared.lines.Line.{Line}
use Rattle.history.specs.declared.operations.Entry.{Entry}
use Rattle.history.specs.declared.operations.Entry.TheVariants.{Push, Pop, Shut}
use Rattle.history.specs.declared.operations.Taken.{Taken}
use Rattle.node_arena.specs.declared.seats.Seat.{Seat}
use Rattle.node_arena.specs.Arenas.{Arena}
use Rattle.node_arena.specs.Prologues.{Prologue}
use Rattle.node_arena.specs.Deeds.{item, pushed, popped, closed}
use Rattle.node_arena.specs.Seats.{DidStep, KeepsSlots, HasNoSlot, carries_of, view}
use Rattle.node_arena.specs.Hands.{HasSlot, AddsOwn}

-- a step that a seat of an arena that carries values made, which added these to its own entries
pub record Did {T : Type 0} (r : Arena) (s t : Seat T) (es : List Entry) : Type 0 where
  pub prologue : Prologue
  pub line : Line
  pub found : ℕ
  pub did : DidStep r s t prologue line found
  pub carries : carries_of r ≡ true
  pub added : (view t).mine ≡ (view s).mine ++ es

-- a step that adds nothing moves no slot and adds no deed
abbrev pub QuietStepsMoveNone : Type 0 → Type 0
QuietStepsMoveNone T = (r : Arena) (s t : Seat T) → Did r s t [] → KeepsSlots s t

-- the step that pushes gives the slot whose number it pushes, and pushes the value that lies in it
abbrev pub PushesGiveTheirSlot : Type 0 → Type 0
PushesGiveTheirSlot T = (r : Arena) (s t : Seat T) (me body : ℕ) (value : T) → Did r s t (Push me body ∷ []) → HasSlot r s body (Some value) → HasNoSlot t × AddsOwn s t (pushed (view s).number value)

-- the step that pops takes the slot whose number it pops, and pops the value that lies in it
abbrev pub PopsTakeTheirSlot : Type 0 → Type 0
PopsTakeTheirSlot T = (r : Arena) (s t : Seat T) (me : ℕ) (taken : Taken) → Did r s t (Pop me taken ∷ []) → HasNoSlot s → (value : T)
    × HasSlot r t taken.body (Some value) × AddsOwn s t (popped (view s).number (item taken.from value))

-- the step that shuts moves no slot
abbrev pub ShutsMoveNone : Type 0 → Type 0
ShutsMoveNone T = (r : Arena) (s t : Seat T) (me : ℕ) → Did r s t (Shut me ∷ []) → KeepsSlots s t × AddsOwn s t (closed (view s).number)
