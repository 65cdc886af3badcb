use Rattle.std.proofs.Common.{[], refl, ◌∙◌}
use Rattle.std.proofs.lemmas.Result.{err_from_is_err_and}
use Rattle.engine_faults.specs.Entries.{title}
use Rattle.text_io.proofs.Rows.{rows_all}
use Rattle.text_io.proofs.Sends.{Sends-none, Writes-held, Writes-refused}
use Rattle.engine_faults.proofs.Titles.{more_titles, stops_at_titles}
use Rattle.engine_faults.proofs.lookups.list.Goals as goal

pub loop-entry-init : goal.loop-entry-init
loop-entry-init g c = record { sends = rw c.new-block.ensures (Sends-none _ []); quiet = refl }

pub returns-in_err-put_title : goal.returns-in_err-put_title
returns-in_err-put_title g c =
    let p = err_from_is_err_and c.from_residual.result c.from_residual.ensures.1 in
    let t = stops_at_titles c.args.entries.now c.loop-entry.entry-index _ c.loop-entry-test.true _ _ _ _ c.loop-entry.invariant.sends
    c.in_err-put_title.ensures.prefix in
    rw (p.1, p.2) (Writes-refused _ _ _ c.loop-entry.invariant.quiet _ _ _ _ c.in_err-put_title.ensures t)

pub loop-entry-preserved : goal.loop-entry-preserved
loop-entry-preserved g c = record {
  sends = more_titles c.args.entries.now c.loop-entry.entry-index _ c.loop-entry-test.true _ _ _ _ c.loop-entry.invariant.sends _
      c.in_ok-put_title.ensures.ok;
  quiet = c.in_ok-put_title.ensures.quiet ∙ c.loop-entry.invariant.quiet;
}

pub returns : goal.returns
returns g c =
    let all = rows_all title [] c.args.entries.now c.loop-entry.entry-index c.loop-entry-test.false in
    let sends = rw all at c.loop-entry.invariant.sends in
    Writes-held _ _ _ c.loop-entry.invariant.quiet _ _ c.finish.result sends c.finish.ensures
