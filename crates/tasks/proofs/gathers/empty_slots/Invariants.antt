use Rattle.std.specs.Prelude.{◌≡◌, ◌≤◌, replicate, None, vec_capacity}
use Rattle.tasks.proofs.gathers.empty_slots.Given as goal

abbrev pub invariant-loop : goal.invariant-loop
invariant-loop g l = record {
  slots : l.slots.items ≡ replicate l.counter None;
  room : l.fn.tasks ≤ vec_capacity l.slots;
}
