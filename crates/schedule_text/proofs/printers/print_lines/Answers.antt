use Rattle.std.proofs.Common.{◌+◌, drop, refl, ◌∙◌}
use Rattle.std.specs.List.{flat_map}
use Rattle.std.proofs.lemmas.Result.{err_from_is_err_and}
use Rattle.text_io.proofs.Sends.{Sends-trans, TakesPrefix-longer, TakesPrefix-trans, Writes-held, Writes-refused}
use Rattle.text_io.proofs.Rows.{rows_more, rows_rest, rows_all}
use Rattle.schedule_text.specs.Texts.{event_text}
use Rattle.schedule_text.proofs.printers.print_lines.Goals as goal

pub returns-in_err-put : goal.returns-in_err-put
returns-in_err-put g c =
    let p = err_from_is_err_and c.from_residual.result c.from_residual.ensures.1 in
    let t = rw (c.new-block.ensures, c.as_slice.ensures) at c.in_err-put.ensures.prefix in
    rw (p.1, p.2) (Writes-refused _ _ _ refl _ _ _ _ c.in_err-put.ensures (TakesPrefix-longer _ _ _ _ t))

pub returns-in_err-put-2 : goal.returns-in_err-put-2
returns-in_err-put-2 g c =
    let p = err_from_is_err_and c.from_residual-in_err-put-2.result c.from_residual-in_err-put-2.ensures.1 in
    let head = c.args.header in
    let events = c.args.events.now in
    let i = c.loop-event.event-index in
    let t = rw (c.as_slice-in-loop-event.ensures, c.event_line.ensures) at c.in_err-put-2.ensures.prefix in
    let u = rw (rows_more event_text head events i c.event-item.result c.loop-event-test.true c.event-item.is)
    at (TakesPrefix-trans _ _ _ _ _ _ c.loop-event.invariant.sends t) in
    let v = rw (rows_rest event_text head events (i + 1)) at (TakesPrefix-longer _ _ _ (flat_map event_text (drop (i + 1) events)) u) in
    rw (p.1, p.2) (Writes-refused _ _ _ c.loop-event.invariant.quiet _ _ _ _ c.in_err-put-2.ensures v)

pub loop-event-preserved : goal.loop-event-preserved
loop-event-preserved g c =
    let head = c.args.header in
    let events = c.args.events.now in
    let i = c.loop-event.event-index in
    let t = rw (c.as_slice-in-loop-event.ensures, c.event_line.ensures) at c.in_ok-put-2.ensures.ok in
    record {
      sends = rw (rows_more event_text head events i c.event-item.result c.loop-event-test.true c.event-item.is)
          at (Sends-trans _ _ _ _ _ _ _ c.loop-event.invariant.sends t);
      quiet = c.in_ok-put-2.ensures.quiet ∙ c.loop-event.invariant.quiet;
    }

pub returns : goal.returns
returns g c =
    let events = c.args.events.now in
    let whole = rows_all event_text c.args.header events c.loop-event.event-index c.loop-event-test.false in
    let sends = rw whole at c.loop-event.invariant.sends in
    Writes-held _ _ _ c.loop-event.invariant.quiet _ _ c.finish.result sends c.finish.ensures
