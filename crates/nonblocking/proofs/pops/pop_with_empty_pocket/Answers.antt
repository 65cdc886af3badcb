use Rattle.std.proofs.Common.{lit≤, IsTrue, sym, subst, arith}
use Rattle.node_arena.specs.Plans.{may_pop}
use Rattle.node_arena.proofs.Loads.{still_bare}
use Rattle.nonblocking.proofs.PopCalls.{pops_out, pop_again, pop_ends, pop_gives_up}
use Rattle.nonblocking.proofs.pops.pop_with_empty_pocket.Goals as goal

pub loop-index-init : goal.loop-index-init
loop-index-init g c = pops_out c.args.arena.now c.args.seat.now c.requires.ready c.requires.empty c.requires.non_blocking

pub pop_by_turn-requires : goal.pop_by_turn-requires
pop_by_turn-requires g c =
    let now = c.loop-index.invariant in
    let bare = still_bare c.args.arena.now c.args.seat.now c.loop-index.seat now.slots c.requires.bare in
    let less = c.loop-index-test.true in
    (lit≤ tt, (now.before, (c.requires.non_blocking, (bare, (subst (λ x. IsTrue (may_pop x)) (sym now.stored.role) c.requires.role, omega (arith, less))))))

pub loop-index-preserved : goal.loop-index-preserved
loop-index-preserved g c = pop_again c.args.arena.now c.args.seat.now c.loop-index.seat c.pop_by_turn.new.seat c.loop-index.index c.loop-index.invariant c.in_default.ensures

pub returns-in-Some : goal.returns-in-Some
returns-in-Some g c = pop_ends c.args.arena.now c.args.seat.now c.loop-index.seat c.pop_by_turn.new.seat c.loop-index.index c.loop-index.invariant
    c.args.spent c.args.turns c.in-Some.answer c.in-Some.ensures

pub returns : goal.returns
returns g c =
    let over = c.loop-index-test.false in
    let within = c.loop-index.auto.index-end in
    let less = c.requires.turns in
    rw c.keep.ensures
    (pop_gives_up c.args.arena.now c.args.seat.now c.loop-index.seat c.args.spent c.args.turns c.loop-index.index (omega arith) (omega arith) c.loop-index.invariant)
