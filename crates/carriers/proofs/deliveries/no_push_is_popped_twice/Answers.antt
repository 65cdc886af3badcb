-- The lemmas are the law.
use Rattle.carriers.proofs.Places.{popped-place, pops-apart, kinds-popped}
use Rattle.carriers.proofs.deliveries.no_push_is_popped_twice.Goals as goal

pub returns-clause-place : goal.returns-clause-place
returns-clause-place g c = popped-place

pub returns-clause-apart : goal.returns-clause-apart
returns-clause-apart g c = pops-apart

pub returns-clause-kinds : goal.returns-clause-kinds
returns-clause-kinds g c = kinds-popped
