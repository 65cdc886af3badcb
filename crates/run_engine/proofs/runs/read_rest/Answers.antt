use Rattle.std.proofs.lemmas.Result.{err_from_is_err_and}
use Rattle.run_engine.proofs.Rest.{IsReadOn-event, IsReadOn-all, IsReadOn-refused, gave_some, gave_none}
use Rattle.run_engine.proofs.runs.read_rest.Goals as goal

pub returns-in_err-next-clause-err : goal.returns-in_err-next-clause-err
returns-in_err-next-clause-err g c =
    let p = err_from_is_err_and c.from_residual.result c.from_residual.ensures.1 in
    rw (p.1, p.2)
    (IsReadOn-refused c.args.events.now c.loop.events c.next.new.self _ _ _ _ c.loop.invariant (c.in_err-next.ensures.next c.loop.invariant.going))

pub loop-preserved : goal.loop-preserved
loop-preserved g c =
    let gave = gave_some c.loop.events c.next.new.self _ _ c.in_ok-next.field-0 c.if-is_some.ensures (c.in_ok-next.ensures.next c.loop.invariant.going) in
    IsReadOn-event c.args.events.now c.loop.events c.next.new.self _ _ _ gave.0 c.loop.invariant gave.1

pub returns-clause-ok : goal.returns-clause-ok
returns-clause-ok g c =
    IsReadOn-all c.args.events.now c.loop.events c.next.new.self _ _ _ c.loop.invariant
    (gave_none c.loop.events c.next.new.self _ _ c.in_ok-next.field-0 c.if-is_some.ensures (c.in_ok-next.ensures.next c.loop.invariant.going))
