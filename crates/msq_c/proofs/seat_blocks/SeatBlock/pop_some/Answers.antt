-- One value was popped, and written.
use Rattle.std.proofs.Common.{Option, subst}
use Rattle.history.specs.declared.operations.Taken.{Taken}
use Rattle.history.specs.Answers.{PopAnswers}
use Rattle.msq_c.specs.Blocks.{known_in}
use Rattle.msq_c.proofs.Batches.{one_from}
use Rattle.msq_c.proofs.seat_blocks.SeatBlock.pop_some.Goals as goal

pub returns-in-Ok-Some-clause-popped : goal.returns-in-Ok-Some-clause-popped
returns-in-Ok-Some-clause-popped c = one_from (known_in c.args.self.now) (known_in c.try_pop.new.self) c.args.from c.args.values.now c.in-Ok-Some.taken c.of.result
    c.requires c.of.ensures
    (subst (λ (x : Option Taken). PopAnswers (known_in c.args.self.now) x (known_in c.try_pop.new.self)) c.in-Ok-Some.field-0-is c.in-Ok-Some.ensures.answer)
