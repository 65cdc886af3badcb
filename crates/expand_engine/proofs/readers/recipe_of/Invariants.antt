use Rattle.std.proofs.Common.{length}
use Rattle.expand_engine.proofs.SoFar.{HasRead}
use Rattle.expand_engine.proofs.readers.recipe_of.Given as goal

-- the lines before the rest were read
abbrev pub invariant-loop-read : goal.invariant-loop-read
invariant-loop-read l = HasRead l.text l.read l.rest

abbrev pub decreases-loop-read : goal.decreases-loop-read
decreases-loop-read l = length l.rest
