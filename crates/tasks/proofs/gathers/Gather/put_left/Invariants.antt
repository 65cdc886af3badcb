use Rattle.std.specs.Prelude.{◌≡◌, ◌<◌, length, map}
use Rattle.std.specs.List.{All}
use Rattle.carriers.specs.Rests.{left_in}
use Rattle.tasks.specs.Gathers.{slots_in, fills, told_left}
use Rattle.tasks.proofs.gathers.Gather.put_left.Given as goal

abbrev pub invariant-loop-item : goal.invariant-loop-item
invariant-loop-item g l = record {
  put : fills (slots_in l.self) (map told_left (left_in l.item-iterator)) ≡ fills (slots_in l.fn.self) (map told_left (left_in l.fn.rest));
  within : All (λ x. x.value.number < length (slots_in l.self)) (left_in l.item-iterator);
}
