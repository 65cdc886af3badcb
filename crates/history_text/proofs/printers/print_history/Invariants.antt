use Rattle.std.proofs.Common.{◌≡◌, ◌++◌, length, take}
use Rattle.std.specs.List.{flat_map}
use Rattle.text_io.specs.Blocks.{Sends}
use Rattle.history_text.specs.HistoryText.{header_text, operation_text}
use Rattle.history_text.proofs.printers.print_history.Given as goal

abbrev pub invariant-loop-operation : goal.invariant-loop-operation
invariant-loop-operation g l = record {
  sends : Sends (g.W.Sink.state l.fn.writer).contents (g.W.Sink.state l.writer).contents
      (header_text (length l.history) ++ flat_map operation_text (take l.operation-index l.history)) l.block;
  quiet : (g.W.Sink.state l.writer).failures ≡ (g.W.Sink.state l.fn.writer).failures;
}
