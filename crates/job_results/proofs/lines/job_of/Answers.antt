use Rattle.std.proofs.Common.{ℕ, List}
use Rattle.job_results.specs.JobTexts.{IsJobInRange}
use Rattle.job_results.specs.JobReading.{said_of, AreOfJob, SaysJob}
use Rattle.job_results.proofs.JobLines.{SaysJob-from_words, AreOfJob-said}
use Rattle.text_io.specs.Lines.{words_of}
use Rattle.text_io.proofs.ReadingBack.{ReadsLine-kept}
use Rattle.job_results.proofs.lines.job_of.Goals as goal

pub returns : goal.returns
returns c =
    let line : List ℕ = c.args.line.now in
    rw c.kept_or_range.ensures
    (ReadsLine-kept said_of (AreOfJob (words_of line)) (SaysJob line) IsJobInRange (SaysJob-from_words line) (AreOfJob-said line) c.parts_of.result (rw c.of.ensures at c.parts_of.ensures))
