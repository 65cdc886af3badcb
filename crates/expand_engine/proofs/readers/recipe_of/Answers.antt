use Rattle.std.proofs.Common.{sym}
use Rattle.expand_engine.proofs.SoFar.{HasRead-more}
use Rattle.expand_engine.proofs.readers.recipe_of.Goals as goal

pub loop-read-preserved : goal.loop-read-preserved
loop-read-preserved c =
    HasRead-more c.args.text.now c.loop-read.read c.read_line.new.self c.loop-read.rest.now c.in_ok-rest.rest.now c.loop-read.invariant (sym c.loop-read-test.ensures) c.in_ok-rest.ensures.ok
    c.in_ok-rest.ensures.range
