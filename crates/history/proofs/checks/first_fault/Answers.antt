use Rattle.std.proofs.Common.{take_all}
use Rattle.history.proofs.Placing.{passes_on, listed-holds}
use Rattle.history.proofs.checks.first_fault.Goals as goal

pub loop-index-preserved : goal.loop-index-preserved
loop-index-preserved c =
    passes_on c.args.history.now c.loop-index.index c.index-history-index.result c.loop-index.places c.fault_of.new.places _ c.loop-index.invariant c.loop-index-test.true c.index-history-index.is
    c.in_ok-cause.ensures.fault c.in_default.is

pub returns-clause-places : goal.returns-clause-places
returns-clause-places c = λ _.
    listed-holds c.loop-index.places c.args.history.now
    (rw (take_all c.loop-index.index c.args.history.now c.loop-index-test.false) at c.loop-index.invariant.holds)
