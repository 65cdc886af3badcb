use Rattle.std.specs.Prelude.{◌≡◌, ◌+◌, length, drop}
use Rattle.tasks.specs.Gathers.{slots_in}
use Rattle.tasks.specs.Offers.{HasOffered}
use Rattle.tasks.proofs.offers.offer_all.Given as goal

abbrev pub invariant-loop-task : goal.invariant-loop-task
invariant-loop-task g l = record {
  seat : g.C.Carrier.is_seat l.fn.queue l.seat;
  number : (g.C.Carrier.known l.seat).number ≡ (g.C.Carrier.known l.initial.seat).number;
  at : drop l.number l.fn.tasks.items ≡ l.task-iterator.rest.items;
  few : l.number + length l.task-iterator.rest.items ≡ length l.fn.tasks.items;
  slots : length (slots_in l.gather) ≡ length l.fn.tasks.items;
  offered : HasOffered g.T.Task.answers l.fn.tasks.items l.number l.refused (g.C.Carrier.known l.initial.seat) (g.C.Carrier.known l.seat) (slots_in l.initial.gather) (slots_in l.gather);
}
