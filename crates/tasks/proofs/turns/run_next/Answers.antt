use Rattle.std.proofs.Common.{◌∙◌, ◌++◌, ◌∷◌, [], ap}
use Rattle.tasks.proofs.turns.run_next.Goals as goal

pub returns-in-Ok-clause-ran : goal.returns-in-Ok-clause-ran
returns-in-Ok-clause-ran g c = record {
  front = c.in-Ok.front;
  popped = c.in-Ok.ensures.taken;
  result = c.run.result;
  of = c.run.ensures;
  added = c.push_reserved.ensures.items ∙ ap (λ l. l ++ c.run.result ∷ []) c.make_room.ensures.same;
}
