use Rattle.std.proofs.Common.{subst}
use Rattle.history.specs.Answers.{PopAnswers}
use Rattle.carriers.proofs.ByDeeds.{empty-deeds, pop_refused-deeds}
use Rattle.carriers.proofs.numbered.NumbersCarrier.try_pop.Goals as goal

pub returns-in-Ok-None-clause-answer : goal.returns-in-Ok-None-clause-answer
returns-in-Ok-None-clause-answer g c =
    let k = g.Q.Fifo.known c.args.seat.now in
    let k' = g.Q.Fifo.known c.try_pop.new.seat in
    empty-deeds k k' (subst (λ o. PopAnswers k o k') c.in-Ok-None.field-0-is c.in-Ok-None.ensures.answer)

pub returns-in-Err-clause-refused : goal.returns-in-Err-clause-refused
returns-in-Err-clause-refused g c = pop_refused-deeds _ _ c.in-Err.refusal c.in-Err.ensures.refused
