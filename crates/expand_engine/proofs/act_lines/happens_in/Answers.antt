use Rattle.expand_engine.proofs.Spoken.{happens_range}
use Rattle.expand_engine.proofs.act_lines.happens_in.Goals as goal

pub returns-in-Err-Range : goal.returns-in-Err-Range
returns-in-Err-Range c = happens_range c.args.line.now c.in-Err-Range.field-0 c.in-Err-Range.field-0-is c.in-Err-Range.ensures
