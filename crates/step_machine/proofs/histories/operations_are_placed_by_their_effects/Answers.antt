-- The lemmas are the laws.
use Rattle.step_machine.proofs.EffectsKept.{placed_by_effect, have_their_effect}
use Rattle.step_machine.proofs.histories.operations_are_placed_by_their_effects.Goals as goal

pub returns-clause-places : goal.returns-clause-places
returns-clause-places c = placed_by_effect

pub returns-clause-effects : goal.returns-clause-effects
returns-clause-effects c = have_their_effect
