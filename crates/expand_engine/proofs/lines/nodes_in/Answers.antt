use Rattle.schedule_text.specs.Texts.{number}
use Rattle.schedule_text.specs.declared.fields.Field.TheVariants.{Nodes}
use Rattle.schedule_text.proofs.Spelling.{spaced-said}
use Rattle.expand_engine.proofs.Spoken.{wrong_nodes}
use Rattle.expand_engine.proofs.lines.nodes_in.Goals as goal

pub returns-in-Ok : goal.returns-in-Ok
returns-in-Ok c = ((tt, spaced-said (number Nodes c.in-Ok.value) c.args.line.now c.in-Ok.ensures.0), c.in-Ok.ensures.1)

pub returns-in-Err : goal.returns-in-Err
returns-in-Err c = wrong_nodes c.args.bits c.args.line.now c.requires.some c.requires.none c.in-Err.cause c.in-Err.ensures
