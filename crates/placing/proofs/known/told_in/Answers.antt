use Rattle.std.proofs.Common.{subst, take_all}
use Rattle.placing.specs.Seen.{HasAllTold}
use Rattle.placing.proofs.Pushed.{told_more}
use Rattle.placing.proofs.known.told_in.Goals as goal

pub loop-operation-preserved : goal.loop-operation-preserved
loop-operation-preserved c =
    told_more c.loop-operation.values c.note_take.new.values c.args.history.now c.loop-operation.operation-index c.operation-item.result c.loop-operation-test.true c.operation-item.is
    c.in_ok-note_take.ensures c.loop-operation.invariant

pub returns : goal.returns
returns c =
    subst (λ ops. HasAllTold ops c.loop-operation.values) (take_all c.loop-operation.operation-index c.args.history.now c.loop-operation-test.false) c.loop-operation.invariant
