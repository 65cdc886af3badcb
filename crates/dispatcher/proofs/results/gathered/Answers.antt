use Rattle.std.proofs.Common.{◌≡◌, ◌∙◌, ap, length, Err, arith}
use Rattle.history.specs.declared.refusals.Refusal.TheVariants.{Lost}
use Rattle.job_results.specs.Jobs.{job_rows}
use Rattle.job_results.specs.Gathers.{jobs_in, found_in}
use Rattle.dispatcher.specs.Goings.{numbers_in}
use Rattle.dispatcher.proofs.Adding.{came_all, none_lost, same_refusal}
use Rattle.dispatcher.proofs.results.gathered.Goals as goal

pub returns-in-Ok-clause-came : goal.returns-in-Ok-clause-came
returns-in-Ok-clause-came g c =
    let added = c.add_each-seats in
    came_all (jobs_in c.args.gather) (found_in c.args.gather) (found_in added.new.gather) c.in-Ok.results.items (numbers_in c.args.run.workers.items)
    c.requires.new added.ensures.adds c.in-Ok.ensures.all (c.in-Ok.ensures.rows ∙ ap (job_rows 1) added.ensures.jobs)

pub returns-in-Err-clause-lost : goal.returns-in-Err-clause-lost
returns-in-Err-clause-lost g c =
    λ listed is came.
    let added = c.add_each-seats in
    let now = added.new.gather in
    let sized = now.sized in
    let whole = now.found.ok.0 in
    let jobs = ap length added.ensures.jobs in
    let lost : c.in-Err.refusal ≡ Lost = same_refusal c.in-Err.refusal Lost is in
    none_lost (length (jobs_in c.args.gather)) (found_in c.args.gather) (found_in now) (numbers_in c.args.run.workers.items) (omega (arith, sized, whole, jobs)) (added.ensures.fills listed) came
    (c.in-Err.ensures.lost.0 (ap (λ r. Err r) lost))
