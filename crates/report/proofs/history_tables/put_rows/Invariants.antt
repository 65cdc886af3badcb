use Rattle.std.proofs.Common.{◌≡◌, ◌++◌, map, drop}
use Rattle.std.specs.List.{flat_map}
use Rattle.history.specs.Tables.{shown}
use Rattle.report.specs.HistoryTable.{row_text}
use Rattle.report.proofs.UnderWay.{IsUnderWay}
use Rattle.report.proofs.history_tables.put_rows.Given as goal

abbrev pub invariant-loop-at : goal.invariant-loop-at
invariant-loop-at g l = record {
  sends : IsUnderWay (g.W.Sink.state l.fn.writer).contents (g.W.Sink.state l.writer).contents
      (l.fn.block ++ flat_map (λ e. row_text e.0 e.1) (map shown l.placed)) l.block
      (flat_map (λ e. row_text e.0 e.1) (map shown (drop l.at-index l.placed)));
  quiet : (g.W.Sink.state l.writer).failures ≡ (g.W.Sink.state l.fn.writer).failures;
}
