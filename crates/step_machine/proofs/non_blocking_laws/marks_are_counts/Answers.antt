-- The lemma is the law, of each world.
use Rattle.step_machine.proofs.EitherQueue.{marks_are_counts}
use Rattle.step_machine.proofs.non_blocking_laws.marks_are_counts.Goals as goal

pub returns : goal.returns
returns c = λ w r e. marks_are_counts w r
