-- The lemma is the law.
use Rattle.step_machine.proofs.StampsLaws.{numbers_are_counted}
use Rattle.step_machine.proofs.stamp_laws.numbers_are_counted.Goals as goal

pub returns : goal.returns
returns c = numbers_are_counted
