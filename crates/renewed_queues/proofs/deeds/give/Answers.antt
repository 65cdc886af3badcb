use Rattle.std.proofs.Common.{rules, arith}
use Rattle.renewed_queues.proofs.Takings.{gave_more, gave_all}
use Rattle.renewed_queues.proofs.deeds.give.Goals as goal

pub loop-number-preserved : goal.loop-number-preserved
loop-number-preserved g c =
    let known = g.Q.Fifo.known in
    let was = c.loop-number.invariant in
    let on = c.loop-number-test.true in
    let from = c.loop-number.auto.number in
    record {
      seat = search rules;
      number = search rules;
      within = omega (arith, on, from);
      gave = gave_more (known c.args.seat.now) (known c.loop-number.seat) (known c.push.new.seat) c.args.first c.loop-number.number from was.gave was.number (search rules);
    }

pub returns-clause-all : goal.returns-clause-all
returns-clause-all g c =
    let known = g.Q.Fifo.known in
    let was = c.loop-number.invariant in
    gave_all (known c.args.seat.now) (known c.loop-number.seat) c.args.first c.loop-number.number c.args.end was.gave was.within c.loop-number-test.false
