use Rattle.std.proofs.Common.{refl}
use Rattle.std.proofs.lemmas.Result.{err_from_is_err_and}
use Rattle.schedule_text.specs.Streams.{stream}
use Rattle.schedule_text.specs.Texts.{version, queue, version_due, queue_due}
use Rattle.schedule_text.proofs.StreamedLines.{stopped_later, stopped_behind_bits, GaveLines-header}
use Rattle.schedule_text.proofs.source_lines.header_from.Goals as goal

pub returns-in_err-kind-clause-err : goal.returns-in_err-kind-clause-err
returns-in_err-kind-clause-err g c =
    let p = err_from_is_err_and c.from_residual-in_err-kind.result c.from_residual-in_err-kind.ensures.1 in
    let v = c.in_ok-version.version in
    let last = stream c.kind_from.new.ahead (g.R.Source.state c.kind_from.new.reader) in
    rw (p.1, p.2) (stopped_later 0 version_due (version v) _ _ last _ refl c.in_ok-version.ensures.ok (c.in_err-kind.ensures.err v))

pub returns-in_err-bits-clause-err : goal.returns-in_err-bits-clause-err
returns-in_err-bits-clause-err g c =
    let p = err_from_is_err_and c.from_residual-in_err-bits.result c.from_residual-in_err-bits.ensures.1 in
    let v = c.in_ok-version.version in
    let last = stream c.bits_from.new.ahead (g.R.Source.state c.bits_from.new.reader) in
    rw (p.1, p.2)
    (stopped_later 0 version_due (version v) _ _ last _ refl c.in_ok-version.ensures.ok
    (stopped_later 1 (queue_due v) (queue c.in_ok-kind.kind) _ _ last _ refl (c.in_ok-kind.ensures.ok v) c.in_err-bits.ensures.err))

pub returns-in_err-sizes-clause-err : goal.returns-in_err-sizes-clause-err
returns-in_err-sizes-clause-err g c =
    let p = err_from_is_err_and c.from_residual-in_err-sizes.result c.from_residual-in_err-sizes.ensures.1 in
    let v = c.in_ok-version.version in
    let last = stream c.sizes_from.new.ahead (g.R.Source.state c.sizes_from.new.reader) in
    rw (p.1, p.2)
    (stopped_later 0 version_due (version v) _ _ last _ refl c.in_ok-version.ensures.ok
    (stopped_later 1 (queue_due v) (queue c.in_ok-kind.kind) _ _ last _ refl (c.in_ok-kind.ensures.ok v)
    (stopped_behind_bits v c.in_ok-bits.bits _ _ last _ c.in_ok-bits.ensures.first c.in_ok-bits.ensures.lines c.in_err-sizes.ensures.err)))

pub returns-clause-ok : goal.returns-clause-ok
returns-clause-ok g c =
    let v = c.in_ok-version.version in
    GaveLines-header v c.in_ok-kind.kind c.in_ok-bits.bits _ _ _ _ _ _ c.in_ok-version.ensures.ok (c.in_ok-kind.ensures.ok v)
    c.in_ok-bits.ensures.first c.in_ok-bits.ensures.lines c.in_ok-sizes.ensures.lines
