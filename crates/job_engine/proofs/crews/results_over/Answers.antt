use Rattle.std.proofs.Common.{◌∙◌, ap, subst, sym}
use Rattle.carriers.specs.Numbers.{fifo_of}
use Rattle.job_engine.specs.Crews.{IsCrew}
use Rattle.job_engine.proofs.crews.results_over.Goals as goal

pub results_with-requires-clause-crew : goal.results_with-requires-clause-crew
results_with-requires-clause-crew g c κs within =
    subst (λ q. IsCrew g.Q.Fifo.is_seat g.Q.Fifo.permits g.Q.Fifo.known q c.args.workers c.args.seats.items) (sym (ap fifo_of c.new-queue.ensures ∙ c.new-numbers.ensures)) c.requires.crew
