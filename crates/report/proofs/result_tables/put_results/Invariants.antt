use Rattle.std.proofs.Common.{◌≡◌, ◌++◌, map, drop}
use Rattle.std.specs.List.{flat_map}
use Rattle.job_results.specs.Results.{row_of}
use Rattle.report.specs.ResultsTable.{result_text}
use Rattle.report.proofs.UnderWay.{IsUnderWay}
use Rattle.report.proofs.result_tables.put_results.Given as goal

abbrev pub invariant-loop-told : goal.invariant-loop-told
invariant-loop-told g l = record {
  sends : IsUnderWay (g.W.Sink.state l.fn.writer).contents (g.W.Sink.state l.writer).contents
      (l.fn.block ++ flat_map result_text (map row_of l.results)) l.block
      (flat_map result_text (map row_of (drop l.told-index l.results)));
  quiet : (g.W.Sink.state l.writer).failures ≡ (g.W.Sink.state l.fn.writer).failures;
}
