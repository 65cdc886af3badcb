-- An access that names a word is one step on its place.
use Rattle.step_machine.proofs.AccessesNameWords.{accesses_are_one_step, each_access_names_a_word}
use Rattle.step_machine.proofs.laws.accesses_are_atomic_steps.Goals as goal

pub returns : goal.returns
returns c = λ w r. accesses_are_one_step w r (each_access_names_a_word w r)
