use Rattle.std.specs.Prelude.{◌≡◌, length}
use Rattle.tasks.specs.Gathers.{slots_in, fills}
use Rattle.tasks.specs.Parts.{AreWithin, tells_of}
use Rattle.tasks.proofs.pools.put_each.Given as goal

abbrev pub invariant-loop-done : goal.invariant-loop-done
invariant-loop-done g l = record {
  put : fills (slots_in l.gather) (tells_of l.done-iterator.rest.items) ≡ fills (slots_in l.fn.gather) (tells_of l.fn.dones.items);
  within : AreWithin (length (slots_in l.gather)) l.done-iterator.rest.items;
}
