-- What a query of a node's place says.
use Rattle.std.specs.Prelude.{◌≡◌, ℕ, ◌≤◌, Bool, true, false, List, length}
use Rattle.line_steps.specs.Actors.{Node}
use Rattle.step_machine.specs.declared.places.Place.{Place}
use Rattle.step_machine.specs.declared.places.Place.TheVariants.{Untouched, Queue, Free, Held, SetAside}
use Rattle.step_machine.specs.Machine.{World}
use Rattle.step_machine.specs.Places.{IsQueueChain, times, IsUntouched, IsQueued, IsFree, IsHeld, IsSetAside}

-- a node is at a place
abbrev pub IsAt : World → ℕ → Place → Type 0
IsAt w n Untouched = IsUntouched w n
IsAt w n Queue = IsQueued w n
IsAt w n Free = IsFree w n
IsAt w n Held = IsHeld w n
IsAt w n SetAside = IsSetAside w n

-- whether something is there is told by how often it is there
abbrev pub TellsWhetherThere : Bool → ℕ → Type 0
TellsWhetherThere is_there often = (is_there ≡ true → 1 ≤ often) × (is_there ≡ false → often ≡ 0)

-- whether a node is in the queue's chain from another one is told, if that has no more nodes than these
abbrev pub TellsOfChain : (bits : ℕ) → Bool → List Node → (from node most : ℕ) → Type 0
TellsOfChain bits is_there nodes from node most =
    (ns : List ℕ) → IsQueueChain bits nodes from ns → length ns ≤ most → TellsWhetherThere is_there (times node ns)
