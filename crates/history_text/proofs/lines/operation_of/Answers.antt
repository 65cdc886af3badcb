use Rattle.std.proofs.Common.{ℕ, List}
use Rattle.history_text.specs.HistoryReading.{AreOfOperation, SaysOperation}
use Rattle.history_text.specs.HistoryLines.{IsOperationInRange}
use Rattle.history_text.proofs.LineReaders.{SaysOperation-from_words, AreOfOperation-said}
use Rattle.text_io.specs.Lines.{words_of}
use Rattle.text_io.proofs.ReadingBack.{ReadsLine-kept}
use Rattle.history_text.proofs.lines.operation_of.Goals as goal

pub returns : goal.returns
returns c =
    let line : List ℕ = c.args.line.now in
    rw c.kept_or_range.ensures
    (ReadsLine-kept (λ v. v) (AreOfOperation (words_of line)) (SaysOperation line) IsOperationInRange (SaysOperation-from_words line) (AreOfOperation-said line) c.parts_of.result (rw c.of.ensures at c.parts_of.ensures))
