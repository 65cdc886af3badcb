-- The operation that ended and is no push, with all others, is the reason.
use Rattle.std.proofs.Common.{◌≡◌, ◌+◌, length, refl, subst, arith}
use Rattle.placing.proofs.Whole.{AreOthers, whole_is_stuck, whole_next}
use Rattle.placing.proofs.stuck.whole.Goals as goal

pub loop-index-preserved : goal.loop-index-preserved
loop-index-preserved c =
    whole_next c.args.history.now c.first_other-at.result c.loop-index.index c.loop-index.others.items c.put_other.new.others.items c.loop-index-test.true
    c.in_ok-put_other.ensures c.loop-index.invariant

pub returns : goal.returns
returns c =
    let ops = c.args.history.now in
    let at = c.first_other-at.result in
    let end = c.loop-index-test.false in
    let within = c.loop-index.auto.index-end in
    let all : c.loop-index.index ≡ length ops = omega (arith, end, within) in
    whole_is_stuck ops at (at + 1) c.loop-index.others.items c.requires.all c.requires.none c.first_other-at.ensures.other c.loop-index.invariant.0
    (subst (λ n. AreOthers at n c.loop-index.others.items) all c.loop-index.invariant.1) refl
