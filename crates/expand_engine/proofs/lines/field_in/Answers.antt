use Rattle.expand_engine.proofs.Spoken.{says_field}
use Rattle.expand_engine.proofs.lines.field_in.Goals as goal

pub returns-in-Ok : goal.returns-in-Ok
returns-in-Ok c = (says_field c.args.bits c.args.field c.in-Ok.value c.args.line.now c.in-Ok.ensures.0, c.in-Ok.ensures.1)
