use Rattle.std.proofs.Common.{◌∙◌}
use Rattle.tasks.proofs.Working.{run_same, run_more}
use Rattle.tasks.proofs.turns.work.Goals as goal

pub loop-preserved : goal.loop-preserved
loop-preserved g c =
    let known = g.C.Carrier.known in
    record {
      can = tt;
      finite = tt;
      seat = c.run_next.ensures.seat;
      number = c.run_next.ensures.number ∙ c.loop.invariant.number;
      ran = run_more g.T.Task.answers (known c.args.seat) (known c.loop.seat) (known c.run_next.new.seat) c.loop.done.items c.run_next.new.done.items c.loop.invariant.ran c.loop.invariant.number
          c.in-Ok.ensures.ran;
    }

pub returns-in-Err : goal.returns-in-Err
returns-in-Err g c =
    let known = g.C.Carrier.known in
    record {
      seat = c.run_next.ensures.seat;
      number = c.run_next.ensures.number ∙ c.loop.invariant.number;
      ran = run_same g.T.Task.answers (known c.args.seat) (known c.loop.seat) (known c.run_next.new.seat) c.loop.done.items c.run_next.new.done.items c.loop.invariant.ran c.in-Err.ensures.none
          c.in-Err.ensures.same;
      last = c.loop.seat;
      sat = c.loop.invariant.seat;
      ended = c.in-Err.ensures.ends;
    }
