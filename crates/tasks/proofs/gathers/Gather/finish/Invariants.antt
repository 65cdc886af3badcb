use Rattle.std.specs.Prelude.{◌≡◌, ◌≤◌, ◌+◌, ◌++◌, length, map, Some, vec_len, vec_capacity}
use Rattle.std.specs.List.{All}
use Rattle.tasks.specs.Gathers.{slots_in, IsFilled}
use Rattle.tasks.proofs.gathers.Gather.finish.Given as goal

abbrev pub invariant-loop-slot : goal.invariant-loop-slot
invariant-loop-slot g l = record {
  put : map Some l.out.items ++ l.slot-iterator.rest.items ≡ slots_in l.fn.self;
  filled : All IsFilled l.slot-iterator.rest.items;
  room : vec_len l.out + length l.slot-iterator.rest.items ≤ vec_capacity l.out;
}
