use Rattle.std.proofs.Common.{All}
use Rattle.stress.specs.Seated.{MayCall}
use Rattle.stress.proofs.seats.jobs_of.Given as goal

abbrev pub invariant-loop-work : goal.invariant-loop-work
invariant-loop-work g l = record {
  seats : All (g.Q.Carrier.is_seat l.queue) l.seats.items;
  jobs : All (λ job. MayCall g.Q.Carrier.is_seat g.Q.Carrier.permits g.Q.Carrier.known l.queue job.seat) l.jobs.items;
}
