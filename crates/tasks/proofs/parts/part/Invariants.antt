use Rattle.std.specs.Prelude.{◌≡◌, ◌++◌, length, map}
use Rattle.tasks.specs.Parts.{seat_in, done_in, end_in, HasRoom}
use Rattle.tasks.proofs.parts.part.Given as goal

abbrev pub invariant-loop-worker : goal.invariant-loop-worker
invariant-loop-worker g l = record {
  seats : l.parts.seats.items ++ map seat_in l.worker-iterator.rest.items ≡ l.fn.parts.seats.items ++ map seat_in l.fn.workers.items;
  dones : l.parts.dones.items ++ map done_in l.worker-iterator.rest.items ≡ l.fn.parts.dones.items ++ map done_in l.fn.workers.items;
  ends : l.parts.ends.items ++ map end_in l.worker-iterator.rest.items ≡ l.fn.parts.ends.items ++ map end_in l.fn.workers.items;
  room : HasRoom (length l.worker-iterator.rest.items) l.parts;
}
