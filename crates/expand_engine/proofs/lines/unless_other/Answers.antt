use Rattle.expand_engine.proofs.Spoken.{wrong_range}
use Rattle.expand_engine.proofs.lines.unless_other.Goals as goal

pub returns-in_default : goal.returns-in_default
returns-in_default c = wrong_range c.args.bits c.args.field c.args.line.now c.args.cause c.in_default.not-Form c.requires.wrong
