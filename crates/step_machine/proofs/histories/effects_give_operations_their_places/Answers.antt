-- The lemmas are the laws.
use Rattle.step_machine.proofs.EffectPlaces.{placed_at_their_lines, effects_give_places}
use Rattle.step_machine.proofs.histories.effects_give_operations_their_places.Goals as goal

pub returns-clause-lines : goal.returns-clause-lines
returns-clause-lines c = placed_at_their_lines

pub returns-clause-each_effect : goal.returns-clause-each_effect
returns-clause-each_effect c = effects_give_places
