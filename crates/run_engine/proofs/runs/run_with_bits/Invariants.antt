use Rattle.run_engine.proofs.Streamed.{MadeSoFar}
use Rattle.run_engine.proofs.runs.run_with_bits.Given as goal

-- the events that were read were made
abbrev pub invariant-loop-world : goal.invariant-loop-world
invariant-loop-world g l =
    MadeSoFar l.fn.events (g.R.Source.state l.fn.reader) l.events l.world l.line (g.R.Source.state l.reader)

abbrev pub decreases-loop-world : goal.decreases-loop-world
decreases-loop-world g l = l.events.left
