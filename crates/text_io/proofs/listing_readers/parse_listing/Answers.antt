use Rattle.std.proofs.Common.{arith}
use Rattle.std.proofs.lemmas.Result.{err_from_is_err_and}
use Rattle.text_io.proofs.ListingSteps.{AreRead-first, AreRead-next, refusal-end, refusal-item, refusal-extra, whole-listing}
use Rattle.text_io.proofs.listing_readers.parse_listing.Goals as goal

pub loop-place-init : goal.loop-place-init
loop-place-init g c =
    let f = g.F.ListingFormat in
    let h = c.in_ok-header in
    let read = AreRead-first f.listing f.item_said (f.header_said h.header) c.args.text.now h.rest.now _ h.ensures.ok c.count-count.ensures in
    rw c.new-items.ensures.items (record { read = read; few = omega (arith, c.count-count.ensures, h.ensures.few) })

pub returns-in_err-line-clause-err : goal.returns-in_err-line-clause-err
returns-in_err-line-clause-err g c =
    let f = g.F.ListingFormat in
    let l = c.loop-place in
    let p = err_from_is_err_and c.from_residual-in_err-line.result c.from_residual-in_err-line.ensures.1 in
    rw (p.1, p.2, c.in_err-line.ensures.err.0)
    (refusal-end f.listing f.item_said (f.header_said c.in_ok-header.header) l.items.items c.args.text.now l.rest.now l.place _ l.invariant.read c.loop-place-test.true c.in_err-line.ensures.err.1)

pub returns-in_err-keep-clause-err : goal.returns-in_err-keep-clause-err
returns-in_err-keep-clause-err g c =
    let f = g.F.ListingFormat in
    let l = c.loop-place in
    let line = c.in_ok-line in
    let p = err_from_is_err_and c.from_residual-in_err-keep.result c.from_residual-in_err-keep.ensures.1 in
    rw (p.1, p.2)
    (refusal-item f.listing f.item_said (f.header_said c.in_ok-header.header) l.items.items c.args.text.now l.rest.now line.line.now line.later.now l.place _
    c.in_err-keep.field-0.0 l.invariant.read c.loop-place-test.true line.ensures.ok.1 line.ensures.ok.0 c.in_err-keep.ensures.err)

pub loop-place-preserved : goal.loop-place-preserved
loop-place-preserved g c =
    let f = g.F.ListingFormat in
    let l = c.loop-place in
    let line = c.in_ok-line in
    let read = AreRead-next f.listing f.item_said (f.header_said c.in_ok-header.header) l.items.items c.keep.new.items.items c.args.text.now l.rest.now line.line.now
    line.later.now l.place _ l.invariant.read c.loop-place-test.true line.ensures.ok.1 c.in_ok-keep.ensures.ok in
    record { read = read; few = l.invariant.few }

pub returns-then-is_empty-clause-text : goal.returns-then-is_empty-clause-text
returns-then-is_empty-clause-text g c =
    let f = g.F.ListingFormat in
    let l = c.loop-place in
    (whole-listing f.listing f.item_said (f.header_said c.in_ok-header.header) l.items.items c.args.text.now l.rest.now l.place _ c.is_empty.result l.invariant.read
    (omega (arith, c.loop-place-test.false, l.auto.place-end)) c.is_empty.ensures c.if-is_empty.true).0

pub returns-then-is_empty-clause-range : goal.returns-then-is_empty-clause-range
returns-then-is_empty-clause-range g c =
    let f = g.F.ListingFormat in
    let l = c.loop-place in
    (whole-listing f.listing f.item_said (f.header_said c.in_ok-header.header) l.items.items c.args.text.now l.rest.now l.place _ c.is_empty.result l.invariant.read
    (omega (arith, c.loop-place-test.false, l.auto.place-end)) c.is_empty.ensures c.if-is_empty.true).1

pub returns-else-is_empty-clause-err : goal.returns-else-is_empty-clause-err
returns-else-is_empty-clause-err g c =
    let f = g.F.ListingFormat in
    let l = c.loop-place in
    refusal-extra f.listing f.item_said (f.header_said c.in_ok-header.header) l.items.items c.args.text.now l.rest.now l.place _ c.is_empty.result l.invariant.read
    (omega (arith, c.loop-place-test.false, l.auto.place-end)) c.is_empty.ensures c.if-is_empty.false
