use Rattle.std.proofs.Common.{lit≤, IsTrue, ◌∙◌, sym, subst, arith}
use Rattle.node_arena.specs.Plans.{may_pop}
use Rattle.two_lock.proofs.PopCalls.{pops_out, has_got, has_bare, pop_again, pop_ends, pop_gives_up}
use Rattle.two_lock.proofs.pops.pop_with_empty_pocket.Goals as goal

pub loop-index-init : goal.loop-index-init
loop-index-init g c = pops_out c.args.arena.now c.args.seat.now c.requires.ready c.requires.empty c.requires.two_lock

pub loop-index-preserved : goal.loop-index-preserved
loop-index-preserved g c = pop_again c.args.arena.now c.args.seat.now c.loop-index.seat c.b1.new.seat c.loop-index.index c.loop-index.invariant _
    c.b1.result c.b1.ensures (sym c.got_lock.ensures ∙ c.if-got_lock.false)

pub returns-then-got_lock : goal.returns-then-got_lock
returns-then-got_lock g c = pop_ends c.args.arena.now c.args.seat.now c.loop-index.seat c.b1.new.seat c.loop-index.index c.loop-index.invariant _
    c.b1.result c.b1.ensures c.pop_locked.new.seat c.args.spent c.args.turns c.pop_locked.result (sym c.got_lock.ensures ∙ c.if-got_lock.true)
    c.pop_locked.ensures

pub returns : goal.returns
returns g c =
    let over = c.loop-index-test.false in
    let within = c.loop-index.auto.index-end in
    let less = c.requires.turns in
    rw c.keep.ensures
    (pop_gives_up c.args.arena.now c.args.seat.now c.loop-index.seat c.args.spent c.args.turns c.loop-index.index (omega arith) (omega arith) c.loop-index.invariant)

pub pop_locked-requires : goal.pop_locked-requires
pop_locked-requires g c =
    let got = sym c.got_lock.ensures ∙ c.if-got_lock.true in
    let before = has_got c.args.arena.now c.args.seat.now c.loop-index.seat c.b1.new.seat c.loop-index.index c.loop-index.invariant _ c.b1.result c.b1.ensures got in
    let bare = has_bare c.args.arena.now c.args.seat.now c.loop-index.seat c.b1.new.seat c.loop-index.index c.loop-index.invariant _ c.b1.result c.b1.ensures c.requires.bare in
    let role = c.b1.ensures.did.stored.role ∙ c.loop-index.invariant.stored.role in
    let less = c.loop-index-test.true in
    (lit≤ tt, (before, (c.requires.two_lock, (bare, (subst (λ x. IsTrue (may_pop x)) (sym role) c.requires.role, omega (arith, less))))))
