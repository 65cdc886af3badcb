use Rattle.std.proofs.Common.{◌≡◌, ◌++◌, [], ap, arith, length, map, subst, sym}
use Rattle.std.proofs.lemmas.List.{length-map}
use Rattle.std.proofs.lemmas.Result.{err_from_is_err_and}
use Rattle.recording_text.specs.Numbers.{with_texts}
use Rattle.recording_text.specs.RecordingReading.{bytes_of, known_by}
use Rattle.recording_text.specs.HeldTexts.{IsBeyondIn, stamped_later}
use Rattle.recording_text.proofs.Known.{length-with_texts}
use Rattle.recording_text.proofs.HeldTexts.{stands-holding, beyond-holding}
use Rattle.recording_text.proofs.held.parse_holding.Goals as goal

pub parse_behind-requires : goal.parse_behind-requires
parse_behind-requires c =
    let held = map bytes_of c.args.held.now in
    let long : length (known_by c.pushes_of.new.known) ≡ length (with_texts [] held) = ap length c.in_ok-history.ensures.learnt in
    omega (arith, long, length-with_texts [] held, length-map c.args.held.now bytes_of, c.requires)

pub returns-in_err-push_later-clause-err : goal.returns-in_err-push_later-clause-err
returns-in_err-push_later-clause-err c =
    let count = length c.args.held.now in
    let p = err_from_is_err_and c.from_residual-in_err-push_later.result c.from_residual-in_err-push_later.ensures.1 in
    let beyond : IsBeyondIn count c.in_ok-operations.operations.items c.in_err-push_later.field-0.0 = rw c.deref.ensures.value at c.in_err-push_later.ensures.err in
    rw (p.1, p.2)
    (beyond-holding count (known_by c.pushes_of.new.known) (known_by c.parse_behind.new.known) c.args.text.now c.in_ok-operations.operations.items c.in_err-push_later.field-0.0
    c.in_ok-operations.ensures.ok beyond)

pub returns-clause-ok : goal.returns-clause-ok
returns-clause-ok c =
    let held = map bytes_of c.args.held.now in
    let pushes = c.in_ok-history.history.items in
    let ops = c.in_ok-operations.operations.items in
    let all = c.push_later.new.history.items in
    let added : all ≡ pushes ++ map (stamped_later (length c.args.held.now)) ops = rw c.deref.ensures.value at c.in_ok-push_later.ensures.ok in
    stands-holding held (known_by c.pushes_of.new.known) (known_by c.parse_behind.new.known) c.args.text.now pushes ops all c.in_ok-history.ensures.learnt c.in_ok-history.ensures.ok
    c.in_ok-operations.ensures.ok (subst (λ count. all ≡ pushes ++ map (stamped_later count) ops) (sym (length-map c.args.held.now bytes_of)) added)
