-- The lemma is the law.
use Rattle.step_machine.proofs.EitherQueue.{each_runs_its_queue}
use Rattle.step_machine.proofs.laws.actors_stand_before_lines_of_their_queue.Goals as goal

pub returns : goal.returns
returns c = each_runs_its_queue
