use Rattle.std.specs.Prelude.{◌≡◌, ◌≤◌, ◌-◌}
use Rattle.renewed_queues.specs.Deeds.{Gave}
use Rattle.renewed_queues.proofs.deeds.give.Given as goal

abbrev pub invariant-loop-number : goal.invariant-loop-number
invariant-loop-number g l = record {
  seat : g.Q.Fifo.is_seat l.fn.queue l.seat;
  number : (g.Q.Fifo.known l.seat).number ≡ (g.Q.Fifo.known l.initial.seat).number;
  within : l.number - l.fn.first ≤ l.fn.end - l.fn.first;
  gave : Gave (g.Q.Fifo.known l.initial.seat) l.fn.first l.number (g.Q.Fifo.known l.seat);
}
