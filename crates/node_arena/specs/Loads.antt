-- What a push and a pop need out with their seat, and what a push and a pop do where values are carried: which slot moves, and which deed
-- is added to the history of values.
use Rattle.std.specs.Prelude.{◌≡◌, ℕ, Bool, false, true, List, [], ◌∷◌, ◌++◌, Some}
use mathlib.Core.Option.{some}
use Rattle.history.specs.declared.operations.Taken.{Taken}
use Rattle.node_arena.specs.Arenas.{Arena}
use Rattle.node_arena.specs.declared.seats.Seat.{Seat}
use Rattle.node_arena.specs.Deeds.{Item, item, pushed, popped, Runs}
use Rattle.node_arena.specs.Beside.{HasLoaded}
use Rattle.node_arena.specs.Seats.{carries_of, HasNoSlot, deeds_of, view}
use Rattle.node_arena.specs.Hands.{AddsOwn, KeepsTries}

-- where an arena carries values, the slot of a body is out with a seat, with a value in it
abbrev pub IsLoaded : {T : Type 0} → Arena → (body : ℕ) → Seat T → Type 0
IsLoaded r body s = HasLoaded r.plan body s.token.me

-- where an arena carries values, no slot is out with a seat
abbrev pub IsBare : {T : Type 0} → Arena → Seat T → Type 0
IsBare r s = carries_of r ≡ true → HasNoSlot s

-- a seat popped this: its pop is the last deed that it has seen, and what it had then seen leads to a queue with this in front
pub record PopsFront {T : Type 0} (s t : Seat T) (front : Item T) : Type 0 where
  pub adds : AddsOwn s t (popped (view s).number front)
  pub rest : List (Item T)
  pub shut : Bool
  pub stood : Runs [] false (deeds_of s ++ adds.between) (front ∷ rest) shut

-- where an arena carries values, the slot of what was popped came out with the seat, beside those that were, with the value
-- that the seat popped
abbrev pub TakesSlot : {T : Type 0} → Arena → Taken → (s t : Seat T) → Type 0
TakesSlot {T} r v s t = carries_of r ≡ true → (x : T) × (t.token.me.1 ≡ (v.body, Some x) ∷ s.token.me.1) × (t.token.me.0.hand ≡ some v.body) × PopsFront s t (item v.from x)

-- a seat pushed what lay in this slot, which was out with it: its push is the last deed that it has seen
abbrev pub PushesFrom : {T : Type 0} → (slot : ℕ) → (s t : Seat T) → Type 0
PushesFrom {T} slot s t = (x : T) × (s.token.me.1 ≡ (slot, Some x) ∷ []) × AddsOwn s t (pushed (view s).number x)

-- where an arena carries values, the slot of what was pushed went with it, so that none is out with the seat, which pushed the
-- value in it, and has tried no more slots
abbrev pub GivesSlot : {T : Type 0} → Arena → (body : ℕ) → (s t : Seat T) → Type 0
GivesSlot r body s t = carries_of r ≡ true → HasNoSlot t × PushesFrom body s t × KeepsTries s t
