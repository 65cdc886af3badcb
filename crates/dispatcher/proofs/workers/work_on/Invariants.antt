use Rattle.std.specs.Prelude.{◌≡◌}
use Rattle.std.specs.List.{All}
use Rattle.shared_queue.specs.Queues.{numbers_in}
use Rattle.job_results.specs.Results.{number_in}
use Rattle.dispatcher.specs.Workers.{IsTaker}
use Rattle.dispatcher.specs.Turns.{HasDone}
use Rattle.dispatcher.proofs.workers.work_on.Given as goal

abbrev pub invariant-loop : goal.invariant-loop
invariant-loop g l = record {
  can : (goal.iterator-loop g).can_next l.iterator';
  finite : (goal.iterator-loop g).is_finite l.iterator';
  seat : IsTaker g.Q.Fifo.is_seat g.Q.Fifo.permits g.Q.Fifo.known (numbers_in l.fn.queue) l.seat;
  number : (g.Q.Fifo.known l.seat).number ≡ (g.Q.Fifo.known l.initial.seat).number;
  done : HasDone l.fn.jobs (g.Q.Fifo.known l.initial.seat) (g.Q.Fifo.known l.seat) l.results.items;
  told : All (λ r. g.G.Gate.done l.fn.gate (number_in r)) l.results.items;
}
