use Rattle.schedule_text.specs.Texts.{queue}
use Rattle.schedule_text.proofs.Spelling.{spaced-said}
use Rattle.expand_engine.proofs.Spoken.{wrong_queue}
use Rattle.expand_engine.proofs.lines.queue_in.Goals as goal

pub returns-in-Ok : goal.returns-in-Ok
returns-in-Ok c = ((tt, spaced-said (queue c.in-Ok.kind) c.args.line.now c.in-Ok.ensures.0), tt)

pub returns-in-Err : goal.returns-in-Err
returns-in-Err c = wrong_queue c.args.line.now c.requires c.in-Err.cause c.in-Err.ensures
