use Rattle.std.proofs.Common.{arith, ◌≡◌, true, Some, None, length, get_or, slice_get, slice_set, take, drop, ◌++◌, refl, sym, ◌∙◌, ap}
use Rattle.std.proofs.lemmas.Option.{slice_get_past, slice_get_read}
use Rattle.placing.specs.Kinds.{ended_before}
use Rattle.placing.proofs.Putting.{is_there, is_in_time, next_used, one_put, length_slice_set, written}
use Rattle.placing.proofs.operation_order.points.Goals as goal

pub returns-in_default-clause-some : goal.returns-in_default-clause-some
returns-in_default-clause-some c = λ room short time.
    let index = get_or c.args.lined.now c.loop-before.before 0 in
    let none : slice_get c.args.history.now index ≡ None = slice_get_past c.args.history.now index c.in_default.ensures.lookup.3 in
    absurd (is_there c.args.history.now c.args.spread.now.numbers.items c.args.spread.now.width c.args.lined.now c.loop-before.before c.loop-before.begun c.loop-before.points.items
    c.loop-before.invariant c.loop-before-test.true none time)

pub returns-then-ended_before-clause-some : goal.returns-then-ended_before-clause-some
returns-then-ended_before-clause-some c = λ room short time.
    let there = slice_get_read c.args.history.now (length c.args.history.now) (get_or c.args.lined.now c.loop-before.before 0) c.in-Some.operation.now refl
    c.in-Some.ensures.lookup.3.0 c.in-Some.ensures.lookup.1 in
    let soon : ended_before c.later-begun.result (c.in-Some.operation.now).last ≡ true = sym c.ended_before.ensures ∙ c.if-ended_before.true in
    absurd (is_in_time c.args.history.now c.args.spread.now.numbers.items c.args.spread.now.width c.args.lined.now c.loop-before.before c.loop-before.begun c.loop-before.points.items
    c.loop-before.invariant c.loop-before-test.true c.in-Some.operation.now c.later-begun.result there c.later-begun.ensures soon time)

pub returns-in_default-behind_first-clause-some : goal.returns-in_default-behind_first-clause-some
returns-in_default-behind_first-clause-some c = λ room short time.
    let there = slice_get_read c.args.history.now (length c.args.history.now) (get_or c.args.lined.now c.loop-before.before 0) c.in-Some.operation.now refl
    c.in-Some.ensures.lookup.3.0 c.in-Some.ensures.lookup.1 in
    let used = next_used c.args.history.now c.args.spread.now.numbers.items c.args.spread.now.width c.args.lined.now c.loop-before.before c.loop-before.begun c.loop-before.points.items
    c.loop-before.invariant c.loop-before-test.true c.in-Some.operation.now c.requires.used there in
    let within = c.loop-before-test.true in
    c.in_default-behind_first.ensures.some room (omega (arith, within, short)) (rw c.later-begun.ensures used)

pub loop-before-preserved : goal.loop-before-preserved
loop-before-preserved c =
    let index = get_or c.args.lined.now c.loop-before.before 0 in
    let there = slice_get_read c.args.history.now (length c.args.history.now) index c.in-Some.operation.now refl
    c.in-Some.ensures.lookup.3.0 c.in-Some.ensures.lookup.1 in
    let put : c.put_point.new.points ≡ slice_set c.loop-before.points.items index (Some c.in-Some-behind_first.at) =
    cc in
    let long : c.loop-before.points.len ≡ length c.loop-before.points.items = cc in
    let kept = ap length put ∙ length_slice_set c.loop-before.points.items index (Some c.in-Some-behind_first.at) in
    one_put c.args.history.now c.args.spread.now.numbers.items c.args.spread.now.width c.args.lined.now c.loop-before.before c.loop-before.begun c.loop-before.points.items
    c.loop-before.invariant c.loop-before-test.true c.in-Some.operation.now c.in-Some-behind_first.at c.later-begun.result
    (take c.loop-before.points.len (c.put_point.new.points ++ drop (length c.put_point.new.points) c.loop-before.points.items))
    c.requires.used there c.later-begun.ensures c.in-Some-behind_first.ensures.at
    (written c.loop-before.points.len c.loop-before.points.items c.put_point.new.points long kept ∙ put)
