use Rattle.schedule_text.specs.Streams.{stream}
use Rattle.run_engine.proofs.Rest.{IsReadOn}
use Rattle.run_engine.proofs.runs.read_rest.Given as goal

abbrev pub invariant-loop : goal.invariant-loop
invariant-loop g l =
    IsReadOn l.fn.events l.events (stream l.fn.events.ahead (g.R.Source.state l.fn.reader)) (stream l.events.ahead (g.R.Source.state l.reader))

abbrev pub decreases-loop : goal.decreases-loop
decreases-loop g l = l.events.left
