use Rattle.expand_engine.proofs.Walked.{IsOnWay}
use Rattle.expand_engine.proofs.walks.walk_until.Given as goal

-- the actor is on its way
abbrev pub invariant-loop-count : goal.invariant-loop-count
invariant-loop-count g l = IsOnWay l.fn.world l.actor l.line l.count l.world l.at
