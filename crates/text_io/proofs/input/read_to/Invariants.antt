use Rattle.std.proofs.Common.{◌≡◌, ◌<◌, ◌≤◌, length}
use Rattle.text_io.specs.Readings.{AddsGiven}
use Rattle.text_io.proofs.input.read_to.Given as goal

abbrev pub invariant-loop-text : goal.invariant-loop-text
invariant-loop-text g l = record {
  room : 0 < length l.block;
  gave : AddsGiven (g.R.Source.state l.fn.reader) (g.R.Source.state l.reader) l.fn.text.items l.text.items;
  calls : (g.R.Source.state l.reader).failures ≡ (g.R.Source.state l.fn.reader).failures;
  spent : (g.R.Source.state l.reader).budget ≤ (g.R.Source.state l.fn.reader).budget;
}

abbrev pub decreases-loop-text : goal.decreases-loop-text
decreases-loop-text g l = (g.R.Source.state l.reader).budget
