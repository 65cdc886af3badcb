use Rattle.parallel_sum.proofs.Adding.{level_sum, level_half, level_fails}
use Rattle.parallel_sum.proofs.levels.level.Goals as goal

pub returns-in-Ok-clause-sum : goal.returns-in-Ok-clause-sum
returns-in-Ok-clause-sum g c = level_sum c.in_ok-pairs.pairs.items c.in-Ok.answers.items c.added.result _ c.in_ok-pairs.ensures.sum c.in-Ok.ensures.answers c.added.ensures

pub returns-in-Ok-clause-half : goal.returns-in-Ok-clause-half
returns-in-Ok-clause-half g c = level_half c.in_ok-pairs.pairs.items c.in-Ok.answers.items c.added.result _ c.in_ok-pairs.ensures.half c.in-Ok.ensures.answers c.added.ensures

pub returns-in-Ok-clause-failure : goal.returns-in-Ok-clause-failure
returns-in-Ok-clause-failure g c = level_fails c.in_ok-pairs.pairs.items c.in-Ok.answers.items c.added.result _ c.in_ok-pairs.ensures.sum c.in-Ok.ensures.answers c.added.ensures
