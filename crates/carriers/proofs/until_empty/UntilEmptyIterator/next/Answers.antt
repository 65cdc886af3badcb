use Rattle.std.proofs.Common.{rules, Some}
use Rattle.history.proofs.Learning.{answers_then, pop_refused_then, sees_then}
use Rattle.carriers.proofs.until_empty.UntilEmptyIterator.next.Goals as goal

pub loop-preserved : goal.loop-preserved
loop-preserved g c = record {
  can = tt;
  finite = tt;
  queue = c.loop.invariant.queue;
  same = c.loop.invariant.same;
  turns = c.loop.invariant.turns;
  goes = c.loop.invariant.goes;
  seat = c.try_pop.ensures.seat;
  more = sees_then _ _ _ c.loop.invariant.more (rw c.in-Err-Busy.field-0-is at c.in-Err-Busy.ensures.refused);
}

pub returns-in-Err : goal.returns-in-Err
returns-in-Err g c = record {
  steps = record {
    queue = search rules;
    same = search rules;
    seat = search rules;
    number = search rules;
    rests = search rules;
    answers = λ _. (
      search rules,
      search rules,
      pop_refused_then _ _ _ c.in-Err.refusal c.loop.invariant.more c.in-Err.ensures.refused,
      record { last = c.loop.self.seat.now; seat = search rules; more = c.loop.invariant.more; caused = search rules },
    );
  };
  goes = search rules;
}

pub returns-in-Ok-Some-clause-steps : goal.returns-in-Ok-Some-clause-steps
returns-in-Ok-Some-clause-steps g c = record {
  queue = search rules;
  same = search rules;
  seat = search rules;
  number = search rules;
  rests = search rules;
  answers = λ _. (search rules, answers_then _ _ _ (Some _) c.loop.invariant.more (search rules));
}

pub returns-in-Ok-None-clause-steps : goal.returns-in-Ok-None-clause-steps
returns-in-Ok-None-clause-steps g c = record {
  queue = search rules;
  same = search rules;
  seat = search rules;
  number = search rules;
  rests = search rules;
  answers = λ _. (search rules, rw c.in-Ok-None.field-0-is at (answers_then _ _ _ c.in-Ok-None.field-0 c.loop.invariant.more c.in-Ok-None.ensures.answer));
}
