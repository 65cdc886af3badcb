use Rattle.std.proofs.Common.{arith}
use Rattle.node_arena.proofs.Moved.{kept_slot}
use Rattle.node_arena.proofs.Handing.{then_known}
use Rattle.worked_runs.proofs.Handed.{pushed_it, kept_it, sees_still}
use Rattle.worked_runs.proofs.hands.push_at_e9.Goals as goal

pub take_value-back-requires : goal.take_value-back-requires
take_value-back-requires g c =
    let may = c.requires.1.1.1.0 in
    let has = c.requires.1.1.1.1.0 in
    let kept = kept_it c.args.arena.now c.args.seat.now g.prologue c.args.slot c.exchange.new.seat c.args.word c.args.old c.args.new c.in-Err.field-0 may has c.in-Err.ensures.1 c.in-Err.ensures.0 in
    (omega arith, (c.in-Err.ensures.1.seat, (has.0, kept_slot c.args.arena.now c.args.seat.now c.exchange.new.seat c.args.slot _ kept has.1)))

pub returns-in-Ok-clause-none : goal.returns-in-Ok-clause-none
returns-in-Ok-clause-none g c = (pushed_it c.args.arena.now c.args.seat.now g.prologue c.args.slot c.exchange.new.seat c.args.word c.args.old
    c.args.new c.in-Ok.field-0 c.requires.1.1.1.0 c.requires.1.1.1.1.0 c.in-Ok.ensures.1 c.in-Ok.ensures.0).0

pub returns-in-Ok-clause-pushed : goal.returns-in-Ok-clause-pushed
returns-in-Ok-clause-pushed g c = (pushed_it c.args.arena.now c.args.seat.now g.prologue c.args.slot c.exchange.new.seat c.args.word c.args.old
    c.args.new c.in-Ok.field-0 c.requires.1.1.1.0 c.requires.1.1.1.1.0 c.in-Ok.ensures.1 c.in-Ok.ensures.0).1

pub returns-in-Err-clause-missed : goal.returns-in-Err-clause-missed
returns-in-Err-clause-missed g c =
    let kept = kept_it c.args.arena.now c.args.seat.now g.prologue c.args.slot c.exchange.new.seat c.args.word c.args.old c.args.new c.in-Err.field-0
    c.requires.1.1.1.0 c.requires.1.1.1.1.0 c.in-Err.ensures.1 c.in-Err.ensures.0 in
    sees_still c.args.seat.now c.exchange.new.seat c.take_value-back.new.seat c.free_slot.new.seat kept.more c.take_value-back.ensures.keeps c.free_slot.ensures.keeps

pub returns-in-Err-clause-lost : goal.returns-in-Err-clause-lost
returns-in-Err-clause-lost g c =
    record {
      found = c.in-Err.field-0;
      other = c.in-Err.ensures.0;
      seat = c.exchange.new.seat;
      did = c.in-Err.ensures.1;
      keeps = then_known c.exchange.new.seat c.take_value-back.new.seat c.free_slot.new.seat c.take_value-back.ensures.keeps c.free_slot.ensures.keeps;
    }
