use Rattle.std.proofs.Common.{Option, subst}
use Rattle.history.specs.declared.operations.Taken.{Taken}
use Rattle.history.specs.Answers.{PopAnswers}
use Rattle.ring_queue.specs.PlacedSeats.{TookFront}
use Rattle.ring_queue.specs.Seats.{known_of}
use Rattle.value_queue.proofs.Learned.{empty-deeds, pop_refused-deeds}
use Rattle.ring_values.specs.Words.{clear_words, word_sight}
use Rattle.ring_values.specs.WordQueues.{ring_in}
use Rattle.ring_values.proofs.LearnedWords.{on_words, word_popped}
use Rattle.ring_values.proofs.words.RingWordsCarrier.try_pop.Goals as goal

pub returns-in-Ok-Some-clause-answer : goal.returns-in-Ok-Some-clause-answer
returns-in-Ok-Some-clause-answer g c =
    let s = c.args.seat.now in
    let t = c.pop_words.new.seat in
    let took = subst (TookFront s t c.pop_words.new.value) c.in-Ok-Some.field-0-is c.in-Ok-Some.ensures.took in
    let did = subst (λ (o : Option Taken). PopAnswers (known_of s) o (known_of t)) c.in-Ok-Some.field-0-is c.in-Ok-Some.ensures.answer in
    word_popped (ring_in c.args.self.now) s t c.requires.seat c.pop_words.ensures.seat c.in-Ok-Some.taken c.pop_words.new.value took did

pub returns-in-Ok-None-clause-answer : goal.returns-in-Ok-None-clause-answer
returns-in-Ok-None-clause-answer g c =
    let r = ring_in c.args.self.now in
    let s = c.args.seat.now in
    let t = c.pop_words.new.seat in
    let kept = subst (TookFront s t c.pop_words.new.value) c.in-Ok-None.field-0-is c.in-Ok-None.ensures.took in
    let found = subst (λ (o : Option Taken). PopAnswers (known_of s) o (known_of t)) c.in-Ok-None.field-0-is c.in-Ok-None.ensures.answer in
    empty-deeds (word_sight s) (word_sight t) (clear_words r s c.requires.seat) (clear_words r t c.pop_words.ensures.seat) (on_words s t kept) found

pub returns-in-Err-clause-refused : goal.returns-in-Err-clause-refused
returns-in-Err-clause-refused g c =
    let r = ring_in c.args.self.now in
    let s = c.args.seat.now in
    let t = c.pop_words.new.seat in
    pop_refused-deeds (word_sight s) (word_sight t) (clear_words r s c.requires.seat) (clear_words r t c.pop_words.ensures.seat) c.in-Err.refusal (on_words s t c.in-Err.ensures.kept)
    c.in-Err.ensures.refused
