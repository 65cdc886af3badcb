use Rattle.std.proofs.Common.{◌≡◌, arith, sym, ◌∙◌, subst}
use Rattle.std.proofs.lemmas.Bool.{eqb-true}
use Rattle.std.proofs.lemmas.List.{nil_from_length}
use Rattle.std.proofs.lemmas.Result.{err_from_is_err_and}
use Rattle.text_io.proofs.ListingSteps.{not_empty}
use Rattle.recording_text.specs.RecordingReading.{known_by}
use Rattle.recording_text.proofs.Steps.{HasRead, HasRead-more, HasRead-room, fault-end, fault-operation, fault-extra, whole-recording}
use Rattle.recording_text.proofs.readers.parse_behind.Goals as goal

pub returns-in_err-line-clause-err : goal.returns-in_err-line-clause-err
returns-in_err-line-clause-err c =
    let e = c.in_err-line.ensures.err in
    let p = err_from_is_err_and c.from_residual-in_err-line.result c.from_residual-in_err-line.ensures.1 in
    rw (p.1, p.2, e.0)
    (fault-end (known_by c.args.known.now) c.in_ok-count.count c.args.text.now c.loop-place.rest.now c.loop-place.place (known_by c.loop-place.known) c.loop-place.operations.items
    c.loop-place.invariant c.loop-place-test.true e.1)

pub keep-requires : goal.keep-requires
keep-requires c =
    HasRead-room (known_by c.args.known.now) c.in_ok-count.count c.args.text.now c.loop-place.rest.now c.loop-place.place (known_by c.loop-place.known) c.loop-place.operations.items
    c.loop-place.invariant c.requires c.loop-place-test.true

pub returns-in_err-keep-clause-err : goal.returns-in_err-keep-clause-err
returns-in_err-keep-clause-err c =
    let line = c.in_ok-line.ensures.ok in
    let p = err_from_is_err_and c.from_residual-in_err-keep.result c.from_residual-in_err-keep.ensures.1 in
    rw (p.1, p.2)
    (fault-operation (known_by c.args.known.now) c.in_ok-count.count c.args.text.now c.loop-place.rest.now c.in_ok-line.line.now c.in_ok-line.later.now c.loop-place.place (known_by c.loop-place.known)
    c.loop-place.operations.items c.in_err-keep.field-0.0 c.loop-place.invariant c.loop-place-test.true line.1 line.0 c.in_err-keep.ensures.err)

pub loop-place-preserved : goal.loop-place-preserved
loop-place-preserved c =
    HasRead-more (known_by c.args.known.now) c.in_ok-count.count c.args.text.now c.loop-place.rest.now c.in_ok-line.line.now c.in_ok-line.later.now c.loop-place.place (known_by c.loop-place.known)
    (known_by c.keep.new.known) c.loop-place.operations.items c.keep.new.operations.items c.loop-place.invariant c.loop-place-test.true c.in_ok-line.ensures.ok.1 c.in_ok-keep.ensures.ok

pub returns-then-is_empty-clause-ok : goal.returns-then-is_empty-clause-ok
returns-then-is_empty-clause-ok c =
    let all : c.loop-place.place ≡ c.in_ok-count.count = omega (arith, c.loop-place-test.false, c.loop-place.auto.place-end) in
    whole-recording (known_by c.args.known.now) c.in_ok-count.count c.args.text.now c.loop-place.rest.now (known_by c.loop-place.known) c.loop-place.operations.items
    (subst (λ place. HasRead (known_by c.args.known.now) c.in_ok-count.count c.args.text.now c.loop-place.rest.now place (known_by c.loop-place.known)
    c.loop-place.operations.items) all c.loop-place.invariant)
    (nil_from_length _ (eqb-true _ _ (sym c.is_empty.ensures ∙ c.if-is_empty.true)))

pub returns-else-is_empty-clause-err : goal.returns-else-is_empty-clause-err
returns-else-is_empty-clause-err c =
    let all : c.loop-place.place ≡ c.in_ok-count.count = omega (arith, c.loop-place-test.false, c.loop-place.auto.place-end) in
    fault-extra (known_by c.args.known.now) c.in_ok-count.count c.args.text.now c.loop-place.rest.now (known_by c.loop-place.known) c.loop-place.operations.items
    (subst (λ place. HasRead (known_by c.args.known.now) c.in_ok-count.count c.args.text.now c.loop-place.rest.now place (known_by c.loop-place.known)
    c.loop-place.operations.items) all c.loop-place.invariant)
    (not_empty c.loop-place.rest.now c.is_empty.result c.is_empty.ensures c.if-is_empty.false)
