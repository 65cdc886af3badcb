use Rattle.std.proofs.Common.{◌∙◌}
use Rattle.std.proofs.lemmas.List.Concat.{flat_map-cons}
use Rattle.std.proofs.lemmas.Result.{err_from_is_err_and}
use Rattle.text_io.proofs.Sends.{Puts-refused}
use Rattle.report.specs.CountRows.{counted_text}
use Rattle.report.proofs.UnderWay.{under_way_more, under_way_stops}
use Rattle.report.proofs.count_rows.put_counts.Goals as goal

pub loop-kind-preserved : goal.loop-kind-preserved
loop-kind-preserved g c =
    let t = rw (c.as_slice.ensures, c.count_line.ensures) at c.in_ok-put.ensures.ok in
    let u = rw (c.in-Some.ensures.steps, flat_map-cons (λ e. counted_text g.K.Named.name_text e.0 e.1) (c.in-Some.kind.now, c.in-Some.number.now) c.next.new.self)
    at c.loop-kind.invariant.sends in
    record {
      sends = under_way_more _ _ _ _ _ _ _ _ u t;
      quiet = c.in_ok-put.ensures.quiet ∙ c.loop-kind.invariant.quiet;
    }

pub returns-in_err-put : goal.returns-in_err-put
returns-in_err-put g c =
    let p = err_from_is_err_and c.from_residual.result c.from_residual.ensures.1 in
    let t = rw (c.as_slice.ensures, c.count_line.ensures) at c.in_err-put.ensures.prefix in
    let u = rw (c.in-Some.ensures.steps, flat_map-cons (λ e. counted_text g.K.Named.name_text e.0 e.1) (c.in-Some.kind.now, c.in-Some.number.now) c.next.new.self)
    at c.loop-kind.invariant.sends in
    rw (p.1, p.2) (Puts-refused _ _ _ c.loop-kind.invariant.quiet _ _ _ _ c.in_err-put.ensures (under_way_stops _ _ _ _ _ _ _ u t) _)
