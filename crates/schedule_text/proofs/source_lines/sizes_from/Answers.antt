use Rattle.std.proofs.lemmas.Result.{err_from_is_err_and}
use Rattle.schedule_text.specs.Streams.{stream}
use Rattle.schedule_text.proofs.StreamedLines.{stopped_limit, stopped_actors, stopped_events, gave_sizes}
use Rattle.schedule_text.proofs.source_lines.sizes_from.Goals as goal

pub returns-in_err-nodes-clause-err : goal.returns-in_err-nodes-clause-err
returns-in_err-nodes-clause-err g c =
    let p = err_from_is_err_and c.from_residual.result c.from_residual.ensures.1 in
    rw (p.1, p.2) (rw c.header_lines-before.ensures.count at (c.in_err-nodes.ensures.err c.args.version))

pub returns-in_err-limit-clause-err : goal.returns-in_err-limit-clause-err
returns-in_err-limit-clause-err g c =
    let p = err_from_is_err_and c.from_residual-in_err-limit.result c.from_residual-in_err-limit.ensures.1 in
    let v = c.args.version in
    let last = stream c.number_from-2.new.ahead (g.R.Source.state c.number_from-2.new.reader) in
    rw (p.1, p.2)
    (stopped_limit v c.args.bits _ c.header_lines-before.ensures.count c.in_ok-nodes.nodes _ _ (c.in_ok-nodes.ensures.ok v) last _
    (c.in_err-limit.ensures.err v))

pub returns-in_err-actors-clause-err : goal.returns-in_err-actors-clause-err
returns-in_err-actors-clause-err g c =
    let p = err_from_is_err_and c.from_residual-in_err-actors.result c.from_residual-in_err-actors.ensures.1 in
    let v = c.args.version in
    let last = stream c.number_from-3.new.ahead (g.R.Source.state c.number_from-3.new.reader) in
    rw (p.1, p.2)
    (stopped_actors v c.args.bits _ c.header_lines-before.ensures.count c.in_ok-nodes.nodes _ _ (c.in_ok-nodes.ensures.ok v)
    c.in_ok-limit.limit _ (c.in_ok-limit.ensures.ok v) last _ (c.in_err-actors.ensures.err v))

pub returns-in_err-events-clause-err : goal.returns-in_err-events-clause-err
returns-in_err-events-clause-err g c =
    let p = err_from_is_err_and c.from_residual-in_err-events.result c.from_residual-in_err-events.ensures.1 in
    let v = c.args.version in
    let last = stream c.number_from-4.new.ahead (g.R.Source.state c.number_from-4.new.reader) in
    rw (p.1, p.2)
    (stopped_events v c.args.bits _ c.header_lines-before.ensures.count c.in_ok-nodes.nodes _ _ (c.in_ok-nodes.ensures.ok v)
    c.in_ok-limit.limit _ (c.in_ok-limit.ensures.ok v) c.in_ok-actors.actors _ (c.in_ok-actors.ensures.ok v) last _ (c.in_err-events.ensures.err v))

pub returns-clause-lines : goal.returns-clause-lines
returns-clause-lines g c =
    let v = c.args.version in
    let last = stream c.number_from-4.new.ahead (g.R.Source.state c.number_from-4.new.reader) in
    gave_sizes v c.args.bits _ c.header_lines-before.ensures.count c.in_ok-nodes.nodes _ _ (c.in_ok-nodes.ensures.ok v) c.in_ok-limit.limit _
    (c.in_ok-limit.ensures.ok v) c.in_ok-actors.actors _ (c.in_ok-actors.ensures.ok v) c.in_ok-events.events last (c.in_ok-events.ensures.ok v)
