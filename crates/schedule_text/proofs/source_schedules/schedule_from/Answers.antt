use Rattle.std.proofs.lemmas.Result.{err_from_is_err_and}
use Rattle.schedule_text.specs.Streams.{stream}
use Rattle.schedule_text.proofs.EventStreams.{HasRead-event, HasRead-refused, gave_event, gave_all, refused_reading, whole_reading}
use Rattle.schedule_text.proofs.source_schedules.schedule_from.Goals as goal

pub returns-in_err-event-clause-err : goal.returns-in_err-event-clause-err
returns-in_err-event-clause-err g c =
    let p = err_from_is_err_and c.from_residual-in_err-event.result c.from_residual-in_err-event.ensures.1 in
    let so_far = c.loop-events.invariant in
    rw (p.1, p.2)
    (refused_reading (g.R.Source.state c.args.reader.now) (g.R.Source.state c.next.new.reader) c.next.new.self.ahead _
    (HasRead-refused c.loop-events.stream c.next.new.self c.loop-events.events.items _ _
    (stream c.next.new.self.ahead (g.R.Source.state c.next.new.reader)) so_far _ (c.in_err-event.ensures.next so_far.going)))

pub loop-events-preserved : goal.loop-events-preserved
loop-events-preserved g c =
    let so_far = c.loop-events.invariant in
    HasRead-event c.loop-events.stream c.next.new.self c.loop-events.events.items _ _ _ so_far c.in-Some.event c.keep.new.events.items c.in_ok-keep.ensures.ok
    (gave_event _ _ _ _ _ _ c.in-Some.is (c.in_ok-event.ensures.next so_far.going))

pub returns-clause-text : goal.returns-clause-text
returns-clause-text g c =
    let so_far = c.loop-events.invariant in
    whole_reading c.loop-events.stream c.next.new.self c.header-header.result.now c.loop-events.events.items _ _ _ so_far
    (gave_all _ _ _ _ _ c.in_default.is (c.in_ok-event.ensures.next so_far.going)) c.header-header.ensures
