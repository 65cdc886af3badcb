use Rattle.std.proofs.Common.{refl}
use Rattle.std.proofs.lemmas.Result.{err_from_is_err_and}
use Rattle.schedule_text.specs.Texts.{version, queue, version_due, queue_due}
use Rattle.schedule_text.proofs.Joining.{refused_later, refused_behind_bits, Begins-header}
use Rattle.schedule_text.proofs.readers.header_of.Goals as goal

pub returns-in_err-kind-clause-err : goal.returns-in_err-kind-clause-err
returns-in_err-kind-clause-err c =
    let p = err_from_is_err_and c.from_residual-in_err-kind.result c.from_residual-in_err-kind.ensures.1 in
    let v = c.in_ok-version.version in
    rw (p.1, p.2) (refused_later 0 version_due (version v) _ _ _ refl c.in_ok-version.ensures.ok (c.in_err-kind.ensures.err v))

pub returns-in_err-bits-clause-err : goal.returns-in_err-bits-clause-err
returns-in_err-bits-clause-err c =
    let p = err_from_is_err_and c.from_residual-in_err-bits.result c.from_residual-in_err-bits.ensures.1 in
    let v = c.in_ok-version.version in
    rw (p.1, p.2)
    (refused_later 0 version_due (version v) _ _ _ refl c.in_ok-version.ensures.ok
    (refused_later 1 (queue_due v) (queue c.in_ok-kind.kind) _ _ _ refl (c.in_ok-kind.ensures.ok v) c.in_err-bits.ensures.err))

pub returns-in_err-sizes-clause-err : goal.returns-in_err-sizes-clause-err
returns-in_err-sizes-clause-err c =
    let p = err_from_is_err_and c.from_residual-in_err-sizes.result c.from_residual-in_err-sizes.ensures.1 in
    let v = c.in_ok-version.version in
    rw (p.1, p.2)
    (refused_later 0 version_due (version v) _ _ _ refl c.in_ok-version.ensures.ok
    (refused_later 1 (queue_due v) (queue c.in_ok-kind.kind) _ _ _ refl (c.in_ok-kind.ensures.ok v)
    (refused_behind_bits v c.in_ok-bits.bits _ _ _ c.in_ok-bits.ensures.first c.in_ok-bits.ensures.text c.in_err-sizes.ensures.err)))

pub returns-clause-text : goal.returns-clause-text
returns-clause-text c =
    let v = c.in_ok-version.version in
    Begins-header v c.in_ok-kind.kind c.in_ok-bits.bits _ _ _ _ _ _ c.in_ok-version.ensures.ok (c.in_ok-kind.ensures.ok v)
    c.in_ok-bits.ensures.first c.in_ok-bits.ensures.text c.in_ok-sizes.ensures.text
