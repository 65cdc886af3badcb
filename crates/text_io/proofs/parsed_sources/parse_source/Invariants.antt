use Rattle.std.proofs.Common.{◌≡◌, ◌<◌, vec_len}
use Rattle.std.specs.Io.KnownBytes.{Consumes}
use Rattle.text_io.proofs.parsed_sources.parse_source.Given as goal

abbrev pub invariant-loop-block : goal.invariant-loop-block
invariant-loop-block g l = record {
  room : 0 < vec_len l.block;
  gave : Consumes (g.R.Source.state l.fn.reader).left (g.R.Source.state l.reader).left l.text.items;
  calls : (g.R.Source.state l.reader).failures ≡ (g.R.Source.state l.fn.reader).failures;
}

abbrev pub decreases-loop-block : goal.decreases-loop-block
decreases-loop-block g l = (g.R.Source.state l.reader).budget
