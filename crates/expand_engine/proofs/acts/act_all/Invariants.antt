use Rattle.std.proofs.Common.{take}
use Rattle.expand_engine.proofs.ActsDone.{HasDone}
use Rattle.expand_engine.proofs.acts.act_all.Given as goal

-- the acts before the one at hand were done
abbrev pub invariant-loop-one : goal.invariant-loop-one
invariant-loop-one g l = HasDone l.fn.world (take l.one-index l.acts) l.events.items l.world l.one-index
