use Rattle.std.proofs.Common.{subst}
use Rattle.tasks.specs.Tasks.{IsDoneOf}
use Rattle.tasks.proofs.Working.{refused_mine}
use Rattle.tasks.proofs.offers.offer.Goals as goal

pub returns-in-Err-clause-ran : goal.returns-in-Err-clause-ran
returns-in-Err-clause-ran g c = record {
  result = c.run-done.result;
  of = subst (λ x. IsDoneOf g.T.Task.answers x c.run-done.result) c.in-Err.ensures.back c.run-done.ensures;
  put = c.put.ensures;
  mine = refused_mine _ _ _ c.in-Err.ensures.refused;
}
