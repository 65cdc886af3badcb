use Rattle.std.specs.Prelude.{◌≡◌}
use Rattle.carriers.specs.Rests.{left_in}
use Rattle.carriers.specs.Deliveries.{values_of}
use Rattle.first_letters.proofs.leftovers.first_of.Given as goal

abbrev pub invariant-loop-item : goal.invariant-loop-item
invariant-loop-item l = values_of l.fn.seat (left_in l.item-iterator) ≡ values_of l.fn.seat (left_in l.fn.rest)
