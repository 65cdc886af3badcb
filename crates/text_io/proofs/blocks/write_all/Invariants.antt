use Rattle.std.proofs.Common.{◌≡◌, length}
use Rattle.text_io.specs.Blocks.{Sends}
use Rattle.text_io.proofs.blocks.write_all.Given as goal

abbrev pub invariant-loop-rest : goal.invariant-loop-rest
invariant-loop-rest g l = record {
  sends : Sends (g.W.Sink.state l.initial.sink).contents (g.W.Sink.state l.sink).contents l.bytes l.rest;
  quiet : (g.W.Sink.state l.sink).failures ≡ (g.W.Sink.state l.initial.sink).failures;
}

abbrev pub decreases-loop-rest : goal.decreases-loop-rest
decreases-loop-rest g l = length l.rest
