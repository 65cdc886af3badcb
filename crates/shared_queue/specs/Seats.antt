-- Seats of a queue of values that may push, or pop.
use Rattle.std.specs.Prelude.{List}
use Rattle.history.specs.Seats.{Permit, MayPush, MayPop}
use Rattle.carriers.specs.Knowledge.{KnownOf}

module _ {C S A : Type 0} (is_seat : C → S → Type 0) (permits : C → List Permit) (known : S → KnownOf A) where
  -- the seat is the queue's, in no call, and may push
  abbrev pub IsGiver : C → S → Type 0
  IsGiver queue seat = is_seat queue seat × MayPush (permits queue) (known seat).number

  -- the seat is the queue's, in no call, and may pop
  abbrev pub IsTaker : C → S → Type 0
  IsTaker queue seat = is_seat queue seat × MayPop (permits queue) (known seat).number

  -- the seat is the queue's, in no call, and may do both
  abbrev pub IsBoth : C → S → Type 0
  IsBoth queue seat = is_seat queue seat × MayPush (permits queue) (known seat).number × MayPop (permits queue) (known seat).number
