use Rattle.std.proofs.Common.{refl, arith}
use Rattle.worked_runs.proofs.Handed.{popped_it, missed_it}
use Rattle.worked_runs.proofs.hands.pop_at_d13.Goals as goal

pub take_value-value-requires : goal.take_value-value-requires
take_value-value-requires g c =
    let may = c.requires.1.1.1.0 in
    let popped = popped_it c.args.arena.now c.args.seat.now g.prologue c.args.slot c.exchange.new.seat c.args.word c.args.old c.args.new
    c.in-Ok.field-0 may c.requires.1.1.1.1.1.0 c.requires.1.1.1.1.0 c.in-Ok.ensures.1 c.in-Ok.ensures.0 in
    (omega arith, (c.in-Ok.ensures.1.seat, (popped.0, popped.1)))

pub returns-in-Err-clause-none : goal.returns-in-Err-clause-none
returns-in-Err-clause-none g c = (missed_it c.args.arena.now c.args.seat.now g.prologue c.args.slot c.exchange.new.seat c.args.word c.args.old
    c.args.new c.in-Err.field-0 c.requires.1.1.1.0 c.requires.1.1.1.1.1.0 c.requires.1.1.1.1.0 c.in-Err.ensures.1 c.in-Err.ensures.0).0

pub returns-in-Err-clause-missed : goal.returns-in-Err-clause-missed
returns-in-Err-clause-missed g c = (missed_it c.args.arena.now c.args.seat.now g.prologue c.args.slot c.exchange.new.seat c.args.word c.args.old
    c.args.new c.in-Err.field-0 c.requires.1.1.1.0 c.requires.1.1.1.1.1.0 c.requires.1.1.1.1.0 c.in-Err.ensures.1 c.in-Err.ensures.0).1

pub returns-in-Err-clause-lost : goal.returns-in-Err-clause-lost
returns-in-Err-clause-lost g c =
    record {
      found = c.in-Err.field-0;
      other = c.in-Err.ensures.0;
      seat = c.exchange.new.seat;
      did = c.in-Err.ensures.1;
      keeps = record {
        stored = record { number = refl; role = refl; keeps = refl; pocket = refl; failed = refl };
        view = refl;
        deeds = refl;
      };
    }
