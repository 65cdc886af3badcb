use Rattle.std.proofs.Common.{◌≡◌, [], ◌++◌, take}
use Rattle.std.specs.List.{flat_map}
use Rattle.text_io.specs.Blocks.{Sends}
use Rattle.engine_faults.specs.Entries.{title}
use Rattle.engine_faults.proofs.lookups.list.Given as goal

abbrev pub invariant-loop-entry : goal.invariant-loop-entry
invariant-loop-entry g l = record {
  sends : Sends (g.W.Sink.state l.fn.writer).contents (g.W.Sink.state l.writer).contents ([] ++ flat_map title (take l.entry-index l.entries)) l.block;
  quiet : (g.W.Sink.state l.writer).failures ≡ (g.W.Sink.state l.fn.writer).failures;
}
