use Rattle.expand_engine.proofs.Spoken.{wrong_form}
use Rattle.expand_engine.proofs.lines.other_in.Goals as goal

pub returns-in_default : goal.returns-in_default
returns-in_default c = wrong_form c.args.bits c.args.field c.args.line.now c.requires.some c.in_default.not-Bits c.requires.none
