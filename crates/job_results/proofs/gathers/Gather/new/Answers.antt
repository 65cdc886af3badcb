use Rattle.std.proofs.Common.{◌≡◌, sym, true, subst}
use Rattle.job_results.specs.GatheredResults.{are_found}
use Rattle.job_results.proofs.Found.{are_found-none}
use Rattle.job_results.proofs.gathers.Gather.new.Goals as goal

pub invariant_of-result-clause-right : goal.invariant_of-result-clause-right
invariant_of-result-clause-right c =
    subst (λ found. are_found 1 c.args.jobs.now found ≡ true) (sym c.in-Ok.ensures) (are_found-none 1 c.args.jobs.now)
