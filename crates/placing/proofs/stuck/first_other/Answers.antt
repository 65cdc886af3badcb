-- Where each operation that ended is a push that may have had its effect, the history is one of a queue.
use Rattle.std.proofs.Common.{All, subst, take_all}
use Rattle.placing.specs.Reasons.{IsPushIfEnded}
use Rattle.placing.proofs.Whole.{only_pushes, pushes_more}
use Rattle.placing.proofs.stuck.first_other.Goals as goal

pub loop-index-preserved : goal.loop-index-preserved
loop-index-preserved c =
    pushes_more c.args.history.now c.loop-index.index c.index-history-index.result c.loop-index-test.true c.index-history-index.is
    (c.is_ended_other.ensures.no c.if-is_ended_other.false) c.loop-index.invariant

pub unreachable-requires : goal.unreachable-requires
unreachable-requires c =
    c.requires.none
    (only_pushes c.args.history.now c.requires.all (subst (All IsPushIfEnded) (take_all c.loop-index.index c.args.history.now c.loop-index-test.false) c.loop-index.invariant))
