-- The lemmas are the law.
use Rattle.placing.proofs.Cutting.{begun_is_of_queue}
use Rattle.placing.proofs.LeavingOut.{part_is_of_queue}
use Rattle.placing.proofs.laws.a_part_is_of_a_queue.Goals as goal

pub returns-clause-begun : goal.returns-clause-begun
returns-clause-begun c = λ ops time. begun_is_of_queue time ops

pub returns-clause-left_out : goal.returns-clause-left_out
returns-clause-left_out c = part_is_of_queue
