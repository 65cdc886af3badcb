-- A history of values that rides on a history of numbers, each the number of the slot in which the value lies.
use Rattle.std.specs.Prelude.{ℕ, Bool, false, List, [], map}
use mathlib.Core.Option as maybe
use Rattle.history.specs.declared.operations.Entry.{Entry}
use Rattle.history.specs.declared.operations.Taken.{Taken}
use Rattle.history.specs.Entries.{Leads}
use Rattle.node_arena.specs.Deeds.{Deed, Runs, Matches}
use Rattle.node_arena.specs.Slots.{Lying, item_of, Home, Slotted}

-- a value in the queue, as the queue of numbers has it: its number is that of its slot
abbrev pub number_of : {T : Type 0} → Lying T → Taken
number_of l = record { from = l.from; body = l.slot }

-- the numbers in the queue are those of slots, and what lies there is what the deeds lead to
pub record Rides {T : Type 0} (history : List Entry) (n : ℕ) (flag : ℕ → ℕ) (home : ℕ → Home T) (hand : ℕ → maybe.Option ℕ) : Type 0 where
  pub deeds : List (Deed T)
  pub q : List (Lying T)
  pub pops : ℕ
  pub shut : Bool
  pub leads : Leads history shut (map number_of q)
  pub runs : Runs [] false deeds (map item_of q) shut
  pub matches : Matches history deeds
  pub slotted : Slotted n flag home hand pops q
