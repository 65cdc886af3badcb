use Rattle.std.proofs.Common.{◌≡◌, ◌++◌}
use Rattle.std.specs.List.{flat_map}
use Rattle.report.specs.CountRows.{counted_text}
use Rattle.report.proofs.UnderWay.{IsUnderWay}
use Rattle.report.proofs.count_rows.put_counts.Given as goal

abbrev pub invariant-loop-kind : goal.invariant-loop-kind
invariant-loop-kind g l = record {
  sends : IsUnderWay (g.W.Sink.state l.fn.writer).contents (g.W.Sink.state l.writer).contents
      (l.fn.block ++ flat_map (λ e. counted_text g.K.Named.name_text e.0 e.1) l.fn.counts.entries) l.block
      (flat_map (λ e. counted_text g.K.Named.name_text e.0 e.1) l.kind-iterator);
  quiet : (g.W.Sink.state l.writer).failures ≡ (g.W.Sink.state l.fn.writer).failures;
}
