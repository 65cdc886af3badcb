use Rattle.expand_engine.proofs.Spoken.{room_outside, wrong_outside}
use Rattle.expand_engine.proofs.lines.act_outside.Goals as goal

pub returns-in-Ok : goal.returns-in-Ok
returns-in-Ok c =
    let said = c.in-Ok.ensures in
    room_outside c.args.steps c.args.line.now c.in-Ok.said c.with_room.result said.0.0 said.0.1 said.1 c.with_room.ensures

pub returns-in-Err : goal.returns-in-Err
returns-in-Err c = wrong_outside c.args.steps c.args.line.now c.requires.some c.in-Err.cause c.in-Err.ensures
