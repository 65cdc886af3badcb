use Rattle.std.specs.Prelude.{◌≡◌, None}
use Rattle.shared_queue.specs.Queues.{queue_of}
use Rattle.tasks.specs.Workers.{IsPost, ServesSo}
use Rattle.tasks.proofs.worker.serve.Given as goal

abbrev pub invariant-loop : goal.invariant-loop
invariant-loop g l = record {
  can : (goal.iterator-loop g).can_next l.iterator';
  finite : (goal.iterator-loop g).is_finite l.iterator';
  post : IsPost g.C.Carrier.is_seat g.C.Carrier.permits g.C.Carrier.known g.D.Carrier.is_seat g.D.Carrier.permits g.D.Carrier.known (queue_of l.fn.tasks) (queue_of l.fn.results) l.post;
  taker : (g.C.Carrier.known l.post.taker).number ≡ (g.C.Carrier.known l.initial.post.taker).number;
  giver : (g.D.Carrier.known l.post.giver).number ≡ (g.D.Carrier.known l.initial.post.giver).number;
  served : ServesSo g.T.Task.answers (g.C.Carrier.known l.initial.post.taker) (g.C.Carrier.known l.post.taker) (g.D.Carrier.known l.initial.post.giver) (g.D.Carrier.known l.post.giver) None;
}
