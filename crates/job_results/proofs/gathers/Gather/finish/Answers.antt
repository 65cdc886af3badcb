use Rattle.std.proofs.Common.{◌≡◌, ◌∙◌, sym, subst, ap, true, Some, map}
use Rattle.std.specs.List.{filter_map, list_any}
use Rattle.std.specs.Option.{is_none}
use Rattle.job_results.specs.GatheredResults.{are_found}
use Rattle.job_results.proofs.Found.{rows_of-found, jobs_of-found, all-there}
use Rattle.job_results.proofs.gathers.Gather.finish.Goals as goal

pub returns-in-Ok-clause-all : goal.returns-in-Ok-clause-all
returns-in-Ok-clause-all c =
    let none = ap (λ os. list_any is_none os) (sym c.deref.ensures.value) ∙ sym c.misses_one.ensures ∙ c.if-misses_one.false in
    ap (λ rs. map (λ r. Some r) rs) (c.in-Ok.ensures ∙ ap (λ os. filter_map (λ o. o) os) c.deref-2.ensures.value) ∙ all-there c.args.self.found.items none

pub returns-in-Ok-clause-rows : goal.returns-in-Ok-clause-rows
returns-in-Ok-clause-rows c =
    let right = subst (λ found. are_found 1 c.args.self.jobs.now found ≡ true) (sym (returns-in-Ok-clause-all c)) c.args.self.right in
    rows_of-found 1 c.args.self.jobs.now c.in-Ok.results.items right

pub returns-in-Ok-clause-same : goal.returns-in-Ok-clause-same
returns-in-Ok-clause-same c =
    let right = subst (λ found. are_found 1 c.args.self.jobs.now found ≡ true) (sym (returns-in-Ok-clause-all c)) c.args.self.right in
    jobs_of-found 1 c.args.self.jobs.now c.in-Ok.results.items right
