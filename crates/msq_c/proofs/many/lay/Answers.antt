-- One value more was written.
use Rattle.msq_c.proofs.Batches.{laid_one}
use Rattle.msq_c.proofs.many.lay.Goals as goal

pub loop-i-preserved : goal.loop-i-preserved
loop-i-preserved c = laid_one c.args.from c.loop-i.i c.args.taken.now c.index-taken-i.result c.of.result c.args.values.now c.loop-i.values
    c.loop-i-test.true c.requires c.index-taken-i.is c.of.ensures c.loop-i.invariant
