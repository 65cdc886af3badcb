use Rattle.history.proofs.Learning.{sees_then, answers_then, pop_refused_then}
use Rattle.history.proofs.queues.Fifo.pop.Goals as goal

pub loop-preserved : goal.loop-preserved
loop-preserved g c = record {
  can = tt;
  finite = tt;
  seat = c.try_pop.ensures.seat;
  more = sees_then _ _ _ c.loop.invariant.more (rw c.in-Err-Busy.field-0-is at c.in-Err-Busy.ensures.refused);
}

pub returns-in-Ok-clause-answer : goal.returns-in-Ok-clause-answer
returns-in-Ok-clause-answer g c = answers_then _ _ _ c.in-Ok.taken c.loop.invariant.more c.in-Ok.ensures.answer

pub returns-in-Err-clause-refused : goal.returns-in-Err-clause-refused
returns-in-Err-clause-refused g c = pop_refused_then _ _ _ c.in-Err.refusal c.loop.invariant.more c.in-Err.ensures.refused
