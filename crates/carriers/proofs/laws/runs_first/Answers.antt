-- The lemmas are the law.
use Rattle.carriers.proofs.Running.{run-first, run-front}
use Rattle.carriers.proofs.laws.runs_first.Goals as goal

pub returns-clause-prefix : goal.returns-clause-prefix
returns-clause-prefix g c = run-first

pub returns-clause-front : goal.returns-clause-front
returns-clause-front g c = run-front
