use Rattle.std.proofs.Common.{[]}
use Rattle.schedule_text.specs.Streams.{stream}
use Rattle.schedule_text.specs.EventStreams.{HasRead}
use Rattle.schedule_text.proofs.source_schedules.schedule_from.Given as goal

abbrev pub invariant-loop-events : goal.invariant-loop-events
invariant-loop-events g l =
    HasRead l.stream l.events.items (stream [] (g.R.Source.state l.fn.reader)) (stream l.stream.ahead (g.R.Source.state l.reader))

abbrev pub decreases-loop-events : goal.decreases-loop-events
decreases-loop-events g l = l.stream.left
