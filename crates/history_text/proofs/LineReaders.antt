-- What the readers of lines rest on.
use Rattle.std.proofs.Common.{ℕ, List, sym, ap, ◌∙◌}
use Rattle.text_io.specs.Lines.{spaced, words_of}
use Rattle.text_io.proofs.Splits.{spaced-words_of}
use Rattle.history.specs.declared.operations.Stamped.{Stamped}
use Rattle.history_text.specs.HistoryReading.{AreOfOperation, SaysOperation}
use Rattle.history_text.proofs.NoSpaces.{ink-operation, words_of-ink}

-- a line of the words of an operation says it
pub SaysOperation-from_words : (says : List ℕ) (o : Stamped) → AreOfOperation (words_of says) o → SaysOperation says o
SaysOperation-from_words says o there = (there.0, sym (spaced-words_of says) ∙ ap spaced there.1)

-- and the other way round
pub AreOfOperation-said : (says : List ℕ) (o : Stamped) → SaysOperation says o → AreOfOperation (words_of says) o
AreOfOperation-said says o said = (said.0, ap words_of said.1 ∙ words_of-ink _ _ (ink-operation o said.0))
