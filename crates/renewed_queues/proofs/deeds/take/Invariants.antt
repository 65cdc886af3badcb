use Rattle.std.specs.Prelude.{◌≡◌, ◌++◌, map, Ok}
use Rattle.carriers.specs.Drained.{values_of}
use Rattle.carriers.specs.Shuts.{queue_of, seat_of}
use Rattle.renewed_queues.proofs.deeds.take.Given as goal

abbrev pub invariant-loop-item : goal.invariant-loop-item
invariant-loop-item g l = record {
  can : (goal.iterator-loop-item g).can_next l.item-iterator;
  finite : (goal.iterator-loop-item g).is_finite l.item-iterator;
  queue : queue_of l.item-iterator ≡ queue_of l.initial.item-iterator;
  same : (seat_of l.item-iterator).ghost_name ≡ (seat_of l.initial.item-iterator).ghost_name;
  values : l.values.items ≡ l.initial.values.items ++ values_of l.yielded;
  each : l.yielded ≡ map Ok (values_of l.yielded);
}
