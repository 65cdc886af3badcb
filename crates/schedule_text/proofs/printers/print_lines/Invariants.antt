use Rattle.std.proofs.Common.{◌≡◌, ◌++◌, take}
use Rattle.std.specs.List.{flat_map}
use Rattle.text_io.specs.Blocks.{Sends}
use Rattle.schedule_text.specs.Texts.{event_text}
use Rattle.schedule_text.proofs.printers.print_lines.Given as goal

abbrev pub invariant-loop-event : goal.invariant-loop-event
invariant-loop-event g l = record {
  sends : Sends (g.W.Sink.state l.fn.writer).contents (g.W.Sink.state l.writer).contents
      (l.fn.header ++ flat_map event_text (take l.event-index l.events)) l.block;
  quiet : (g.W.Sink.state l.writer).failures ≡ (g.W.Sink.state l.fn.writer).failures;
}
