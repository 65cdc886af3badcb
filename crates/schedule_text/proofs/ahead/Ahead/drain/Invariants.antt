use Rattle.std.proofs.Common.{◌≡◌, ◌+◌, length}
use Rattle.schedule_text.proofs.ahead.Ahead.drain.Given as goal

abbrev pub invariant-loop : goal.invariant-loop
invariant-loop g l = (g.R.Source.state l.reader).failures ≡ (g.R.Source.state l.fn.reader).failures

abbrev pub decreases-loop : goal.decreases-loop
decreases-loop g l = (g.R.Source.state l.reader).budget + length l.self
