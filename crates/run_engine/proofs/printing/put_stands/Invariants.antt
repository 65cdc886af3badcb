use Rattle.std.proofs.Common.{◌≡◌, ◌++◌}
use Rattle.text_io.specs.Blocks.{Sends}
use Rattle.run_engine.specs.Pieces.{actors_text}
use Rattle.run_engine.proofs.printing.put_stands.Given as goal

-- the lines of the actors so far were put
abbrev pub invariant-loop-index : goal.invariant-loop-index
invariant-loop-index g l = record {
  sends : Sends (g.W.Sink.state l.fn.writer).contents (g.W.Sink.state l.writer).contents
      (l.fn.block ++ actors_text ((g.P.RunPrinter.pieces l.printer).stand l.world) l.index) l.block;
  quiet : (g.W.Sink.state l.writer).failures ≡ (g.W.Sink.state l.fn.writer).failures;
}
