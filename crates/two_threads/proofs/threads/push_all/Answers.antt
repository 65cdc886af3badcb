use Rattle.std.proofs.Common.{◌≡◌, ◌∙◌, ◌+◌, suc, sym, arith}
use Rattle.carriers.specs.ToEntries.{push_refused, pushed}
use Rattle.two_threads.proofs.Orders.{never_shut, ends_run, pushed_more}
use Rattle.two_threads.proofs.threads.push_all.Goals as goal

pub loop-count-preserved : goal.loop-count-preserved
loop-count-preserved g c =
    let was = c.loop-count.invariant in
    let one = pushed (g.Q.Fifo.known c.loop-count.seat) (g.Q.Fifo.known c.send.new.seat) c.in-Some.body c.in_default-send.ensures.pushed in
    let value = c.in-Some.ensures.value in
    let next : c.loop-count.count + 1 ≡ suc c.loop-count.count = omega arith in
    record {
      seat = c.send.ensures.seat;
      number = c.send.ensures.number ∙ was.number;
      mine = pushed_more _ _ c.loop-count.count (c.loop-count.count + 1) _ _ _ was.number was.mine one.mine (omega (arith, value)) next;
    }

pub returns-in-Err-clause-refusal : goal.returns-in-Err-clause-refusal
returns-in-Err-clause-refusal g c =
    let here = g.met.Q.Fifo in
    let was = c.loop-count.invariant in
    let one = c.send.ensures in
    let refused = push_refused (g.Q.Fifo.known c.loop-count.seat) (g.Q.Fifo.known c.send.new.seat) c.in-Err.unpushed.refusal c.in-Err.ensures.refused in
    ends_run c.args.most (g.Q.Fifo.known c.loop-count.seat) _ _
    (λ found. never_shut _ _ _ c.loop-count.count (here.sound _ _ one.seat) (λ n may. c.requires.alone n may ∙ sym (one.number ∙ was.number)) (found.mine ∙ was.mine) found.shut)
    c.in-Err.ensures.refusal refused
