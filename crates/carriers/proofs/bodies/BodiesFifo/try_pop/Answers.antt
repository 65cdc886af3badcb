use Rattle.std.proofs.Common.{◌≡◌, ◌∙◌, ap, subst, Option, Some, None}
use Rattle.carriers.specs.DeedsOfNumbers.{item_taken}
use Rattle.carriers.specs.Answers.{PopAnswersOf}
use Rattle.carriers.specs.ToEntries.{answers_of, pop_refused_of}
use Rattle.carriers.proofs.bodies.BodiesFifo.try_pop.Goals as goal

pub returns-in-Ok-Some-clause-answer : goal.returns-in-Ok-Some-clause-answer
returns-in-Ok-Some-clause-answer g c =
    let k = g.C.Carrier.known c.args.seat.now in
    let k' = g.C.Carrier.known c.try_pop.new.seat in
    answers_of k k' (Some c.into_taken.result)
    (subst (λ o. PopAnswersOf k o k') (c.in-Ok-Some.field-0-is ∙ ap Some c.into_taken.ensures) c.in-Ok-Some.ensures.answer)

pub returns-in-Ok-None-clause-answer : goal.returns-in-Ok-None-clause-answer
returns-in-Ok-None-clause-answer g c =
    let k = g.C.Carrier.known c.args.seat.now in
    let k' = g.C.Carrier.known c.try_pop.new.seat in
    answers_of k k' None (subst (λ o. PopAnswersOf k o k') c.in-Ok-None.field-0-is c.in-Ok-None.ensures.answer)

pub returns-in-Err-clause-refused : goal.returns-in-Err-clause-refused
returns-in-Err-clause-refused g c = pop_refused_of _ _ c.in-Err.refusal c.in-Err.ensures.refused
