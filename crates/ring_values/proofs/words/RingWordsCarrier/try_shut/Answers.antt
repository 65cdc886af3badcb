use Rattle.ring_values.specs.WordQueues.{ring_in}
use Rattle.ring_values.proofs.LearnedWords.{words_shut, words_shut_before, words_shut_caused}
use Rattle.ring_values.proofs.words.RingWordsCarrier.try_shut.Goals as goal

pub returns-clause-shut : goal.returns-clause-shut
returns-clause-shut g c = let told = c.shut_words.ensures in words_shut (ring_in c.args.self.now) c.args.seat.now
    c.shut_words.new.seat c.requires.seat told.seat c.shut_words.result told.said told.shut

pub returns-clause-refused : goal.returns-clause-refused
returns-clause-refused g c = let told = c.shut_words.ensures in words_shut_before (ring_in c.args.self.now) c.args.seat.now
    c.shut_words.new.seat c.requires.seat told.seat c.shut_words.result told.kept told.was

pub returns-clause-caused : goal.returns-clause-caused
returns-clause-caused g c = let told = c.shut_words.ensures in words_shut_caused (ring_in c.args.self.now) c.args.seat.now
    c.shut_words.new.seat c.requires.seat told.seat c.shut_words.result told.was
