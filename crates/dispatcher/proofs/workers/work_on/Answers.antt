use Rattle.std.proofs.Common.{◌∙◌}
use Rattle.dispatcher.proofs.Taking.{done_more, told_more}
use Rattle.dispatcher.proofs.workers.work_on.Goals as goal

pub loop-preserved : goal.loop-preserved
loop-preserved g c =
    let known = g.Q.Fifo.known in
    let jobs = c.args.jobs.now in
    let gated = g.G.Gate.done c.args.gate.now in
    let did = c.in-Ok.ensures.did in
    record {
      can = tt;
      finite = tt;
      seat = c.work_next.ensures.seat;
      number = c.work_next.ensures.number ∙ c.loop.invariant.number;
      done = done_more jobs gated (known c.args.seat) (known c.loop.seat) (known c.work_next.new.seat) c.loop.results.items c.work_next.new.out.items c.loop.invariant.done c.loop.invariant.number did;
      told = told_more jobs gated (known c.loop.seat) (known c.work_next.new.seat) c.loop.results.items c.work_next.new.out.items c.loop.invariant.told did;
    }
