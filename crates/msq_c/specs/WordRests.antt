-- What C gets of the end of a queue of words.
use Rattle.std.specs.Prelude.{◌≡◌, Bool, List, Result}
use Rattle.carriers.specs.declared.queues.Carrier.{Ghosts}
use Rattle.carriers.specs.declared.items.ItemOf.{ItemOf}
use Rattle.carriers.specs.declared.rests.RestOf.{RestOf}
use Rattle.carriers.specs.Rests.{left_in, taken_in, whole_in, was_shut_in}
use Rattle.node_arena.specs.declared.seats.Seat.{Seat}
use Rattle.picked.specs.declared.kind_values.AnyValues.{AnyValues}
use Rattle.msq_c.specs.declared.rests.MsqRest.{MsqRest}
use Rattle.msq_c.specs.declared.troubles.Trouble.{Trouble}
use Rattle.msq_c.specs.Rests.{AnswersEnd}
use Rattle.msq_c.specs.Values.{count_told, AreLaid}
use Rattle.msq_c.specs.WordBlocks.{Own}
use Rattle.msq_c.specs.WordEnds.{AreEmpty, ClosesHandles, RefusesClose}

-- C gets of a rest how many values are left, how many were taken, whether it is whole, and whether the queue was shut
pub record IsRest {T : Type 0} (rest : RestOf T) (told : MsqRest) : Type 0 where
  pub left : told.left ≡ count_told (left_in rest)
  pub taken : told.taken ≡ taken_in rest
  pub whole : told.whole ≡ whole_in rest
  pub was_shut : told.was_shut ≡ was_shut_in rest

-- what the end of a queue answers: C gets of each value left an item, as `item` says
module _ {H T I : Type 0} {g : Ghosts (AnyValues T) T (Seat T)} (holds : H → Bool) (own : H → Own T g) (item : ItemOf T → I) where
  abbrev pub AnswersClose : (slots slots' : List H) (vs vs' : List I) (told told' : MsqRest) → Result (Unit {0}) Trouble → Type 0
  AnswersClose = AnswersEnd (ClosesHandles own) (AreEmpty holds) (RefusesClose holds own) IsRest (λ rest. AreLaid item (left_in rest))
