use Rattle.std.proofs.Common.{◌≡◌, ◌<◌, length}
use Rattle.text_io.proofs.input.read_rest.Given as goal

abbrev pub invariant-loop : goal.invariant-loop
invariant-loop g l = record {
  room : 0 < length l.block;
  calls : (g.R.Source.state l.reader).failures ≡ (g.R.Source.state l.fn.reader).failures;
}

abbrev pub decreases-loop : goal.decreases-loop
decreases-loop g l = (g.R.Source.state l.reader).budget
