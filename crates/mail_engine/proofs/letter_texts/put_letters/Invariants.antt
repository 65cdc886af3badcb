use Rattle.std.proofs.Common.{◌≡◌, ◌++◌, drop}
use Rattle.std.specs.List.{flat_map}
use Rattle.report.proofs.UnderWay.{IsUnderWay}
use Rattle.mail_engine.specs.Posts.{letter_text}
use Rattle.mail_engine.proofs.letter_texts.put_letters.Given as goal

abbrev pub invariant-loop-letter : goal.invariant-loop-letter
invariant-loop-letter g l = record {
  sends : IsUnderWay (g.W.Sink.state l.fn.writer).contents (g.W.Sink.state l.writer).contents (l.fn.block ++ flat_map letter_text l.fn.letters)
      l.block (flat_map letter_text (drop l.letter-index l.letters));
  quiet : (g.W.Sink.state l.writer).failures ≡ (g.W.Sink.state l.fn.writer).failures;
}
