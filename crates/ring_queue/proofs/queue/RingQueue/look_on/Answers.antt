use Rattle.std.proofs.Common.{ap, sym, ◌∙◌, arith}
use Rattle.std.proofs.lemmas.List.{length-set}
use Rattle.history.proofs.Learning.{sees_then}
use Rattle.ring_queue.specs.Knowledge.{found}
use Rattle.ring_queue.proofs.Batching.{take_set}
use Rattle.ring_queue.proofs.Tries.{tried_then}
use Rattle.ring_queue.proofs.queue.RingQueue.look_on.Goals as goal

pub loop-count-preserved : goal.loop-count-preserved
loop-count-preserved g c =
    let inv = c.loop-count.invariant in
    let next = c.in-Some.ensures in
    let before = inv.name in
    let name = next.name in
    let lt = c.loop-count-test.true in
    let high = c.requires.limit.1 in
    let low = inv.some in
    let same = take_set c.loop-count.words c.loop-count.count c.in-Some.word (omega (arith, inv.long, lt, high)) in
    record {
      seat = next.seat;
      name = record { number = name.number ∙ before.number; role = name.role ∙ before.role };
      sees = sees_then _ _ _ inv.sees next.sees;
      head = next.head ∙ inv.head;
      found = next.found ∙ ap found (sym same);
      some = omega (arith, low);
      few = omega (arith, lt);
      long = length-set c.loop-count.words c.loop-count.count c.in-Some.word ∙ inv.long;
      tried = tried_then c.args.seat.now c.loop-count.seat c.look_next.new.seat 0 0 inv.tried next.tried;
    }
