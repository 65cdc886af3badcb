use Rattle.std.proofs.Common.{◌≡◌, ◌++◌, take}
use Rattle.std.specs.List.{flat_map}
use Rattle.text_io.specs.Blocks.{Sends}
use Rattle.show_engine.specs.Legends.{meaning_row}
use Rattle.show_engine.proofs.legends.write_end.Given as goal

-- the last line, and the rows of the meanings so far, were put
abbrev pub invariant-loop-meaning : goal.invariant-loop-meaning
invariant-loop-meaning g l = record {
  sends : Sends (g.W.Sink.state l.fn.writer).contents (g.W.Sink.state l.writer).contents
      ((l.fn.block ++ l.last) ++ flat_map (meaning_row l.frame l.lines) (take l.meaning-index l.legend)) l.block;
  quiet : (g.W.Sink.state l.writer).failures ≡ (g.W.Sink.state l.fn.writer).failures;
}
