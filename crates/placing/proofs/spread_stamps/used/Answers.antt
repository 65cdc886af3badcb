use Rattle.std.proofs.Common.{arith, take_all, subst}
use Rattle.std.specs.List.{All}
use Rattle.placing.specs.SpreadStamps.{IsOfNumbers}
use Rattle.placing.proofs.Ranks.{used_more}
use Rattle.placing.proofs.spread_stamps.used.Goals as goal

pub loop-operation-preserved : goal.loop-operation-preserved
loop-operation-preserved c =
    let adds = c.in_ok-push_stamps.ensures in
    let few = adds.few in
    let so = c.loop-operation.invariant.1 in (
      used_more c.loop-operation.numbers.items c.push_stamps.new.numbers.items c.args.history.now c.loop-operation.operation-index
          c.operation-item.result c.loop-operation-test.true c.operation-item.is adds c.loop-operation.invariant.0,
      omega (arith, few, so),
    )

pub returns-clause-each : goal.returns-clause-each
returns-clause-each c =
    subst (λ ops. All (IsOfNumbers c.loop-operation.numbers.items) ops) (take_all c.loop-operation.operation-index c.args.history.now c.loop-operation-test.false) c.loop-operation.invariant.0
