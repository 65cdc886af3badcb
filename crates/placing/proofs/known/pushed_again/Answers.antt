use Rattle.std.proofs.Common.{subst, take_all}
use Rattle.placing.proofs.Pushed.{ArePushed, pushed_more, all_pushed_again}
use Rattle.placing.proofs.known.pushed_again.Goals as goal

pub loop-operation-preserved : goal.loop-operation-preserved
loop-operation-preserved c =
    pushed_more c.loop-operation.seen c.note_push.new.seen c.loop-operation.again c.note_push.new.again c.args.history.now c.loop-operation.operation-index c.operation-item.result
    c.loop-operation-test.true c.operation-item.is c.in_ok-note_push.ensures c.loop-operation.invariant

pub returns : goal.returns
returns c =
    all_pushed_again c.loop-operation.seen c.loop-operation.again c.args.history.now
    (subst (ArePushed c.loop-operation.seen c.loop-operation.again) (take_all c.loop-operation.operation-index c.args.history.now c.loop-operation-test.false) c.loop-operation.invariant)
