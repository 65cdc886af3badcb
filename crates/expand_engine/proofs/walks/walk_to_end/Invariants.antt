use Rattle.expand_engine.proofs.Walked.{IsWalking}
use Rattle.expand_engine.proofs.walks.walk_to_end.Given as goal

-- the actor's call goes on
abbrev pub invariant-loop-count : goal.invariant-loop-count
invariant-loop-count g l = IsWalking l.fn.world l.actor l.count l.world
