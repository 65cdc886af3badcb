use Rattle.std.proofs.Common.{◌∙◌, ◌++◌, ◌∷◌, [], ap, sym, subst, length, append_assoc, arith}
use Rattle.tasks.proofs.Lying.{zip-push}
use Rattle.tasks.specs.Settled.{IsSettled, AreSettled}
use Rattle.tasks.proofs.executor.answer_each.Goals as goal

pub loop-outcome-preserved : goal.loop-outcome-preserved
loop-outcome-preserved g c =
    let before = c.loop-outcome.yielded in
    let o = c.in-Some.outcome in
    let pushed = c.push_reserved.ensures in
    let fewer = ap length c.in-Some.ensures.steps.0 in
    let len = pushed.len in
    let cap = pushed.capacity in
    let room = c.loop-outcome.invariant.room in
    record {
      all = append_assoc before (o ∷ []) c.next.new.self.rest.items ∙ ap (λ l. before ++ l) (sym c.in-Some.ensures.steps.0) ∙ c.loop-outcome.invariant.all;
      settled = subst (AreSettled g.T.Task.answers (before ++ o ∷ [])) (sym pushed.items)
          (zip-push (IsSettled g.T.Task.answers) before c.loop-outcome.answers.items o c.settle.result c.loop-outcome.invariant.settled
          c.settle.ensures);
      room = omega (arith, fewer, len, cap, room);
    }
