use Rattle.std.proofs.Common.{ap}
use Rattle.history.specs.declared.operations.Entry.TheVariants.{Shut}
use Rattle.history.proofs.Learning.{sees_then, adds_then, push_refused_then}
use Rattle.history.proofs.queues.Fifo.shut.Goals as goal

pub loop-preserved : goal.loop-preserved
loop-preserved g c = record {
  can = tt;
  finite = tt;
  seat = c.try_shut.ensures.seat;
  more = sees_then _ _ _ c.loop.invariant.more (rw c.in-Err-Busy.field-0-is at c.in-Err-Busy.ensures.refused);
}

pub returns-in-Err-clause-refused : goal.returns-in-Err-clause-refused
returns-in-Err-clause-refused g c = push_refused_then _ _ _ c.in-Err.refusal c.loop.invariant.more c.in-Err.ensures.refused

pub returns-in-Ok-clause-shut : goal.returns-in-Ok-clause-shut
returns-in-Ok-clause-shut g c = adds_then _ _ _ _ _ (ap Shut c.loop.invariant.more.number) c.loop.invariant.more c.in-Ok.ensures.shut
