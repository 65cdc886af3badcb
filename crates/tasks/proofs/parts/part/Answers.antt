use Rattle.std.proofs.Common.{◌∙◌, ◌++◌, ◌∷◌, [], ap, sym, length, map, append_assoc, arith}
use Rattle.tasks.specs.Parts.{seat_in, done_in, end_in}
use Rattle.tasks.proofs.parts.part.Goals as goal

pub loop-worker-preserved : goal.loop-worker-preserved
loop-worker-preserved g c =
    let rest = c.next.new.self.rest.items in
    let w = c.in-Some.worker in
    let was = c.loop-worker.parts in
    let steps = c.in-Some.ensures.steps.0 in
    let one = c.push_reserved.ensures in
    let two = c.push_reserved-in-loop-worker.ensures in
    let three = c.push_reserved-in-loop-worker-2.ensures in
    let fewer = ap length steps in
    let s0 = c.loop-worker.invariant.room.seats in
    let s1 = one.len in
    let s2 = one.capacity in
    let d0 = c.loop-worker.invariant.room.dones in
    let d1 = two.len in
    let d2 = two.capacity in
    let e0 = c.loop-worker.invariant.room.ends in
    let e1 = three.len in
    let e2 = three.capacity in
    record {
      seats = ap (λ l. l ++ map seat_in rest) one.items ∙ append_assoc was.seats.items (w.seat ∷ []) (map seat_in rest) ∙ ap
          (λ r. was.seats.items ++ map seat_in r) (sym steps) ∙ c.loop-worker.invariant.seats;
      dones = ap (λ l. l ++ map done_in rest) two.items ∙ append_assoc was.dones.items (w.done ∷ []) (map done_in rest) ∙ ap
          (λ r. was.dones.items ++ map done_in r) (sym steps) ∙ c.loop-worker.invariant.dones;
      ends = ap (λ l. l ++ map end_in rest) three.items ∙ append_assoc was.ends.items (w.end ∷ []) (map end_in rest) ∙ ap
          (λ r. was.ends.items ++ map end_in r) (sym steps) ∙ c.loop-worker.invariant.ends;
      room = record {
        seats = omega (arith, fewer, s0, s1, s2);
        dones = omega (arith, fewer, d0, d1, d2);
        ends = omega (arith, fewer, e0, e1, e2);
      };
    }
