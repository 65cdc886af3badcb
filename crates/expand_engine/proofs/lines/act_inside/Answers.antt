use Rattle.expand_engine.proofs.Spoken.{no_repeat, repeat_inside, room_inside, wrong_inside}
use Rattle.expand_engine.proofs.lines.act_inside.Goals as goal

pub returns-then-opens_repeat : goal.returns-then-opens_repeat
returns-then-opens_repeat c =
    let opens = c.opens_repeat.ensures.yes c.if-opens_repeat.true in
    repeat_inside c.args.steps c.args.times c.args.line.now opens.0 c.requires.some opens.1

pub returns-in-Ok : goal.returns-in-Ok
returns-in-Ok c =
    let said = c.in-Ok.ensures in
    room_inside c.args.steps c.args.times c.args.line.now c.in-Ok.said c.with_room.result said.0.0
    (no_repeat c.args.line.now c.in-Ok.said said.0.1 (c.opens_repeat.ensures.no c.if-opens_repeat.false)) said.0.1 said.1 c.with_room.ensures

pub returns-in-Err : goal.returns-in-Err
returns-in-Err c =
    wrong_inside c.args.steps c.args.times c.args.line.now c.requires.some (c.opens_repeat.ensures.no c.if-opens_repeat.false) c.in-Err.cause c.in-Err.ensures
