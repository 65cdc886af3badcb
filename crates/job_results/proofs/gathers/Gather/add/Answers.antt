use Rattle.std.proofs.Common.{◌≡◌, ◌-◌, ◌∙◌, sym, subst, ap, refl, arith, Some, None, IsTrue, length, slice_set}
use Rattle.std.specs.List.{slice_get}
use Rattle.std.specs.Option.{IsSomeAnd}
use Rattle.std.proofs.lemmas.Option.{slice_get_read}
use Rattle.job_results.specs.Jobs.{same_job}
use Rattle.job_results.specs.Results.{number_in, job_in}
use Rattle.job_results.specs.GatheredResults.{Names}
use Rattle.job_results.proofs.Found.{are_found-set, none-there}
use Rattle.job_results.proofs.gathers.Gather.add.Goals as goal

pub invariant_of-self-clause-right : goal.invariant_of-self-clause-right
invariant_of-self-clause-right c =
    let jobs = c.args.self.now.jobs.now in
    let named = subst (λ job. Names jobs c.number.result job) c.job.ensures c.in-Some.ensures.named in
    are_found-set 1 jobs c.args.self.now.found.items c.in-Some.place c.args.added c.args.self.now.right
    (omega (arith, c.in-Some.ensures.place, c.number.ensures))
    (subst (λ p. IsSomeAnd (slice_get jobs p) (λ job. IsTrue (same_job (job_in c.args.added) job))) (omega (arith, c.in-Some.ensures.place)) named.1)

pub returns-clause-added : goal.returns-clause-added
returns-clause-added c =
    let jobs = c.args.self.now.jobs.now in
    let found = c.args.self.now.found in
    let place : c.in-Some.place ≡ number_in c.args.added - 1 = omega (arith, c.in-Some.ensures.place, c.number.ensures) in
    record {
      listed = subst (λ n. Names jobs n (job_in c.args.added)) c.number.ensures (subst (λ job. Names jobs c.number.result job) c.job.ensures c.in-Some.ensures.named);
      missing = subst (λ p. slice_get found.items p ≡ Some None) place
          (slice_get_read found.items (length found.items) c.in-Some.place c.index.result.now refl (omega (arith, c.in-Some.ensures.within, c.args.self.now.sized, found.ok.0)) c.index.ensures
          ∙ ap (λ o. Some o) (none-there c.index.result.now (sym c.is_some.ensures ∙ c.if-is_some.false)));
      put = ap (λ p. slice_set found.items p (Some c.args.added)) place;
    }
