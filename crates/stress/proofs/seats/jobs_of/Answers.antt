use Rattle.std.proofs.lemmas.List.Elements.{All-push}
use Rattle.stress.specs.Seated.{MayCall}
use Rattle.stress.proofs.seats.jobs_of.Goals as goal

pub loop-work-preserved : goal.loop-work-preserved
loop-work-preserved g c = record {
  seats = c.job_of.ensures.rest;
  jobs = rw c.in-Ok.ensures.items (All-push (λ job. MayCall g.Q.Carrier.is_seat g.Q.Carrier.permits g.Q.Carrier.known c.args.queue.now job.seat)
      c.loop-work.jobs.items c.in_ok-job.job c.loop-work.invariant.jobs c.in_ok-job.ensures.job);
}
