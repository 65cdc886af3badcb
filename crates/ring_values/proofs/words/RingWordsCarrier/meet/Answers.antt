use Rattle.ring_values.specs.WordQueues.{ring_in}
use Rattle.ring_values.proofs.LearnedWords.{words_met}
use Rattle.ring_values.proofs.words.RingWordsCarrier.meet.Goals as goal

pub returns-clause-meets : goal.returns-clause-meets
returns-clause-meets g c =
    let told = c.meet_words.ensures in
    words_met (ring_in c.args.self.now) c.args.one.now c.args.other.now c.meet_words.new.one c.meet_words.new.other c.requires.one c.requires.other told.one told.other told.said told.meets
