use Rattle.std.proofs.Common.{◌≡◌, ◌-◌, length}
use Rattle.std.specs.Io.KnownBytes.{Keeps}
use Rattle.show_engine.specs.Colouring.{state_of}
use Rattle.show_engine.proofs.coloured.Coloured.hand_on.Given as goal

abbrev pub invariant-loop-self : goal.invariant-loop-self
invariant-loop-self g l = record {
  keeps : Keeps (state_of g.W.Sink.state l.initial.self).contents (state_of g.W.Sink.state l.self).contents;
  quiet : (g.W.Sink.state l.self.inner).failures ≡ (g.W.Sink.state l.initial.self.inner).failures;
  full : l.self.is_full ≡ l.initial.self.is_full;
}

abbrev pub decreases-loop-self : goal.decreases-loop-self
decreases-loop-self g l = length l.self.held - l.self.from
