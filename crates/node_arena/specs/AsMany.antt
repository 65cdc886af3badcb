-- Laws of histories of values beside those of numbers: as many are left.
use Rattle.std.specs.Prelude.{◌≡◌, ℕ, Bool, true, false, List, [], map}
use mathlib.Core.List.{IsPrefix}
use Rattle.history.specs.declared.operations.Entry.{Entry}
use Rattle.history.specs.declared.operations.Taken.{Taken}
use Rattle.history.specs.Entries.{Leads}
use Rattle.node_arena.specs.declared.seats.Seat.{Seat}
use Rattle.node_arena.specs.Arenas.{Arena}
use Rattle.node_arena.specs.Deeds.{Item, Deed, Runs, Matches}
use Rattle.node_arena.specs.Seats.{IsSeat, carries_of, deeds_of, view}

-- who pushed these numbers, in order
abbrev pub pushers : List Taken → List ℕ
pushers numbers = map (λ t. t.from) numbers

-- who pushed these values, in order
abbrev pub pushers_of : {T : Type 0} → List (Item T) → List ℕ
pushers_of values = map (λ x. x.from) values

-- what goes one by one with a history of numbers leaves as many values, of the same seats in the same order, and the queue shut
-- or not as that does
abbrev pub LeavesAsMany : Type 0 → Type 0
LeavesAsMany T =
    (es : List Entry) (ds : List (Deed T)) (numbers : List Taken) (values : List (Item T)) (shut shut' : Bool) → Matches es ds → Leads es shut numbers → Runs [] false ds values shut' →
    (pushers numbers ≡ pushers_of values) × (shut ≡ shut')

-- of what was seen of values, the deeds that go one by one with these entries leave none, and the queue shut or not
pub record LeftNoValue {T : Type 0} (seen : List (Deed T)) (es : List Entry) (shut : Bool) : Type 0 where
  pub deeds : List (Deed T)
  pub begins : IsPrefix deeds seen
  pub matches : Matches es deeds
  pub runs : Runs [] false deeds [] shut

-- where the entries that a seat has seen by some moment left no number, the values that it had seen by then left none
abbrev pub SeenEmptyOfValues : Type 0 → Type 0
SeenEmptyOfValues T = (r : Arena) (s : Seat T) (es : List Entry) (shut : Bool) → IsSeat r s → carries_of r ≡ true → IsPrefix es (view s).seen → Leads es shut [] → ∥ LeftNoValue (deeds_of s) es shut ∥₁
