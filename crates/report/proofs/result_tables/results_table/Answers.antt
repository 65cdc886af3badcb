use Rattle.std.proofs.Common.{rules, subst, OnOk, OnErr}
use Rattle.std.specs.Io.KnownBytes.{Appends}
use Rattle.text_io.specs.Blocks.{TakesPrefix}
use Rattle.report.proofs.ResultRows.{results-counted}
use Rattle.report.proofs.result_tables.results_table.Goals as goal

pub returns-clause-ok : goal.returns-clause-ok
returns-clause-ok g c =
    subst (λ text. OnOk c.write_results.result (Appends (g.W.Sink.state c.args.writer.now).contents (g.W.Sink.state c.write_results.new.writer).contents text))
    (results-counted c.args.results.now c.in_ok-counts.counts.entries c.in_ok-counts.ensures.ok) c.write_results.ensures.ok

pub returns-clause-prefix : goal.returns-clause-prefix
returns-clause-prefix g c =
    let prefix =
    subst (λ text. OnErr c.write_results.result (TakesPrefix (g.W.Sink.state c.args.writer.now).contents (g.W.Sink.state c.write_results.new.writer).contents text))
    (results-counted c.args.results.now c.in_ok-counts.counts.entries c.in_ok-counts.ensures.ok) c.write_results.ensures.prefix in
    search rules
