use Rattle.std.proofs.Common.{◌≡◌, ◌++◌, [], take}
use Rattle.std.specs.List.{flat_map}
use Rattle.text_io.specs.Blocks.{Sends}
use Rattle.show_engine.specs.Timelines.{shown_row}
use Rattle.show_engine.proofs.timeline.write_timeline.Given as goal

-- the rows of the operations so far were put
abbrev pub invariant-loop-operation : goal.invariant-loop-operation
invariant-loop-operation g l = record {
  sends : Sends (g.W.Sink.state l.fn.writer).contents (g.W.Sink.state l.writer).contents
      ([] ++ flat_map (shown_row l.scale) (take l.operation-index l.history)) l.block;
  quiet : (g.W.Sink.state l.writer).failures ≡ (g.W.Sink.state l.fn.writer).failures;
}
