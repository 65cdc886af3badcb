use Rattle.std.proofs.Common.{subst}
use Rattle.placing.specs.Reasons.{IsStuck}
use Rattle.placing.proofs.stuck.told.Goals as goal

-- What is so of the slice of the others is so of their list.
pub returns-then-is_stuck : goal.returns-then-is_stuck
returns-then-is_stuck c = subst (IsStuck c.args.history.now c.args.place) c.deref.ensures.value (c.is_stuck.ensures c.if-is_stuck.true)
