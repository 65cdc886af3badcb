use Rattle.std.specs.Prelude.{◌≡◌, ◌<◌, length, map}
use Rattle.std.specs.List.{All}
use Rattle.tasks.specs.Gathers.{slots_in, fills, told_done}
use Rattle.tasks.proofs.gathers.Gather.put_done.Given as goal

abbrev pub invariant-loop-one : goal.invariant-loop-one
invariant-loop-one g l = record {
  put : fills (slots_in l.self) (map told_done l.one-iterator.rest.items) ≡ fills (slots_in l.fn.self) (map told_done l.fn.done.items);
  within : All (λ d. d.number < length (slots_in l.self)) l.one-iterator.rest.items;
}
