use Rattle.value_queue.proofs.Learned.{push_refused-deeds}
use Rattle.ring_values.specs.Words.{clear_words, word_sight}
use Rattle.ring_values.specs.WordQueues.{ring_in}
use Rattle.ring_values.proofs.LearnedWords.{on_words, word_pushed}
use Rattle.ring_values.proofs.words.RingWordsCarrier.try_push.Goals as goal

pub returns-in-Ok-clause-pushed : goal.returns-in-Ok-clause-pushed
returns-in-Ok-clause-pushed g c = word_pushed (ring_in c.args.self.now) c.args.seat.now c.push_words.new.seat c.requires.seat c.push_words.ensures.seat c.args.value c.in-Ok.ensures.said c.in-Ok.ensures.pushed

pub returns-in-Err-clause-refused : goal.returns-in-Err-clause-refused
returns-in-Err-clause-refused g c =
    let r = ring_in c.args.self.now in
    let s = c.args.seat.now in
    let t = c.push_words.new.seat in
    push_refused-deeds (word_sight s) (word_sight t) (clear_words r s c.requires.seat) (clear_words r t c.push_words.ensures.seat) c.in-Err.refusal (on_words s t c.in-Err.ensures.kept)
    c.in-Err.ensures.refused
