use Rattle.std.proofs.Common.{drop}
use Rattle.placing.specs.Reasons.{RisesFrom}
use Rattle.placing.proofs.held_values.rise.Given as goal

abbrev pub invariant-loop-place : goal.invariant-loop-place
invariant-loop-place l = RisesFrom l.least (drop l.place-index l.places) → RisesFrom 0 l.places
