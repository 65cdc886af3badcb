use Rattle.std.proofs.Common.{◌+◌, ap, ◌∙◌}
use Rattle.std.proofs.lemmas.Result.{err_from_is_err_and}
use Rattle.schedule_text.specs.Schedules.{header_lines}
use Rattle.run_engine.proofs.Streamed.{so_far-started, so_far-event, ran, stopped_history, stopped_memory, stopped_next, stopped_rest, stopped_at}
use Rattle.run_engine.proofs.runs.run_with_bits.Goals as goal

pub loop-world-init : goal.loop-world-init
loop-world-init g c =
    so_far-started _ _ _ _ _ c.requires.begun c.header.ensures c.in_ok-world.ensures.ok
    (ap (λ n. n + 1) (c.header_lines-line.ensures.count ∙ ap (λ h. header_lines h.version) c.header-2.ensures))

pub returns-in_err-event-clause-err : goal.returns-in_err-event-clause-err
returns-in_err-event-clause-err g c =
    let p = err_from_is_err_and c.from_residual-in_err-event.result c.from_residual-in_err-event.ensures.1 in
    rw (p.1, p.2) (stopped_next c.loop-world.invariant c.next.new.self _ _ c.in_err-event.ensures.next)

pub loop-world-preserved : goal.loop-world-preserved
loop-world-preserved g c =
    so_far-event c.loop-world.invariant c.next.new.self _ _ c.in_ok-event.ensures.next c.in-Some.event c.in-Some.is _ c.in-Ok.ensures.ok c.in-Ok.ensures.steps

pub returns-in_err-read_rest-in-Err-clause-err : goal.returns-in_err-read_rest-in-Err-clause-err
returns-in_err-read_rest-in-Err-clause-err g c =
    let p = err_from_is_err_and c.from_residual-in_err-read_rest-in-Err.result c.from_residual-in_err-read_rest-in-Err.ensures.1 in
    rw (p.1, p.2)
    (stopped_rest c.loop-world.invariant c.next.new.self _ _ c.in_ok-event.ensures.next _ c.in-Some.is
    _ c.read_rest.new.events.ahead _ c.in_err-read_rest-in-Err.ensures.err)

pub returns-in-Err-clause-err : goal.returns-in-Err-clause-err
returns-in-Err-clause-err g c =
    stopped_at c.loop-world.invariant c.next.new.self _ _ c.in_ok-event.ensures.next _ c.in-Some.is _ c.read_rest.new.events.ahead _ _ _
    c.in_ok-read_rest-in-Err.ensures.ok c.in-Err.ensures.kind c.in-Err.ensures.refused c.at.ensures.refusal c.at.ensures.kind c.at.ensures.line

pub returns-in-Err-Memory-clause-err : goal.returns-in-Err-Memory-clause-err
returns-in-Err-Memory-clause-err g c =
    rw c.from.ensures (stopped_memory c.loop-world.invariant c.next.new.self _ _ c.in_ok-event.ensures.next _ c.in-Some.is)

pub returns-in_err-history-clause-err : goal.returns-in_err-history-clause-err
returns-in_err-history-clause-err g c =
    let p = err_from_is_err_and c.from_residual-in_err-history.result c.from_residual-in_err-history.ensures.1 in
    rw (p.1, p.2, c.in_err-history.ensures.refused) (stopped_history c.loop-world.invariant c.next.new.self _ _ c.in_ok-event.ensures.next c.in_default.is)

pub returns-clause-end : goal.returns-clause-end
returns-clause-end g c = λ first begun. (ran c.loop-world.invariant c.next.new.self _ _ c.in_ok-event.ensures.next c.in_default.is first begun).1

pub returns-clause-ok : goal.returns-clause-ok
returns-clause-ok g c = λ first begun.
    rw c.in_ok-history.ensures.ok (ran c.loop-world.invariant c.next.new.self _ _ c.in_ok-event.ensures.next c.in_default.is first begun).0
