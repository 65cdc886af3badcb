-- By computation.
use Rattle.carriers.proofs.SmallRuns.{handed_over-runs, told_apart-runs}
use Rattle.carriers.proofs.laws.small_histories_are_runs.Goals as goal

pub returns-clause-handed_over : goal.returns-clause-handed_over
returns-clause-handed_over c = handed_over-runs

pub returns-clause-told_apart : goal.returns-clause-told_apart
returns-clause-told_apart c = told_apart-runs
