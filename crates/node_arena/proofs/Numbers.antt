-- An arena of numbers: no slot is out with a seat of its own.
use Rattle.std.proofs.Common.{◌≡◌, true, false, List, sym, ◌∙◌}
use Rattle.std.specs.List.{All}
use Rattle.std.proofs.lemmas.List.Elements.{All-weaker}
use Rattle.node_arena.specs.Arenas.{Arena}
use Rattle.node_arena.specs.declared.seats.Seat.{Seat}
use Rattle.node_arena.specs.Seats.{IsReady, HasNoSlot, carries_of}

-- whatever is asked where values are carried
pub asks_nothing : {X : Type 0} (r : Arena) → carries_of r ≡ false → carries_of r ≡ true → X
asks_nothing r numbers carried = absurd (let h : true ≡ false = sym carried ∙ numbers in cc)

module _ {T : Type 0} (r : Arena) (numbers : carries_of r ≡ false) where
  -- a seat in no call
  pub has_none : (s : Seat T) → IsReady r s → HasNoSlot s
  has_none s h = h.seat.sits.none_out numbers

  -- all of some seats
  pub have_none : (seats : List (Seat T)) → All (IsReady r) seats → All HasNoSlot seats
  have_none seats h = All-weaker (IsReady r) HasNoSlot has_none seats h
