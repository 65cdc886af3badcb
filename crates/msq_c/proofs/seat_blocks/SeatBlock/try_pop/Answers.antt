-- What the seat is told by deeds it is told by entries.
use Rattle.std.proofs.Common.{◌∙◌, ap, subst, Some, None}
use Rattle.carriers.specs.Answers.{PopAnswersOf}
use Rattle.carriers.specs.DeedsOfNumbers.{known_by_deeds}
use Rattle.carriers.specs.ToEntries.{answers, pop_refused}
use Rattle.owned.specs.Owned.{seat_of}
use Rattle.msq_c.specs.Queues.{known_of}
use Rattle.msq_c.specs.Blocks.{known_in}
use Rattle.msq_c.proofs.seat_blocks.SeatBlock.try_pop.Goals as goal

pub returns-in-Ok-Some-clause-answer : goal.returns-in-Ok-Some-clause-answer
returns-in-Ok-Some-clause-answer c = answers _ _ (Some c.into_taken.result)
    (subst (λ o. PopAnswersOf (known_by_deeds (known_in c.args.self.now)) o (known_by_deeds (known_of (seat_of c.try_pop.new.self)))) (c.in-Ok-Some.field-0-is ∙ ap Some c.into_taken.ensures) c.in-Ok-Some.ensures.answer)

pub returns-in-Ok-None-clause-answer : goal.returns-in-Ok-None-clause-answer
returns-in-Ok-None-clause-answer c = answers _ _ None
    (subst (λ o. PopAnswersOf (known_by_deeds (known_in c.args.self.now)) o (known_by_deeds (known_of (seat_of c.try_pop.new.self)))) c.in-Ok-None.field-0-is c.in-Ok-None.ensures.answer)

pub returns-in-Err-clause-refused : goal.returns-in-Err-clause-refused
returns-in-Err-clause-refused c = (c.in-Err.ensures.refusal, pop_refused _ _ _ c.in-Err.ensures.refused, c.in-Err.ensures.caused)
