use Rattle.std.proofs.Common.{◌≡◌, subst, arith}
use Rattle.free_list.specs.Takes.{Trying}
use Rattle.free_list.proofs.TakeTurns.{sets_out, again, took, refused, gave_up}
use Rattle.free_list.proofs.takes.take_within.Goals as goal

pub loop-index-init : goal.loop-index-init
loop-index-init g c = sets_out c.args.arena.now c.args.seat.now c.requires.ready c.requires.empty

pub loop-index-preserved : goal.loop-index-preserved
loop-index-preserved g c = again c.args.arena.now c.args.seat.now c.loop-index.seat c.loop-index.index c.loop-index.invariant _ c.in-Failed.ensures

pub returns-in-Took : goal.returns-in-Took
returns-in-Took g c =
    rw c.keep.ensures
    (took c.args.arena.now c.args.seat.now c.loop-index.seat c.loop-index.index c.loop-index.invariant _ c.args.turns _ c.loop-index-test.true c.in-Took.ensures)

pub returns-in-Refused : goal.returns-in-Refused
returns-in-Refused g c =
    rw c.keep-in-Refused.ensures
    (refused c.args.arena.now c.args.seat.now c.loop-index.seat c.loop-index.index c.loop-index.invariant _ c.args.turns _ c.loop-index-test.true c.in-Refused.ensures)

pub returns : goal.returns
returns g c =
    let over = c.loop-index-test.false in
    let within = c.loop-index.auto.index-end in
    let e : c.loop-index.index ≡ c.args.turns = omega arith in
    let all = subst (Trying c.args.arena.now c.args.seat.now c.loop-index.seat) e c.loop-index.invariant in
    rw c.keep-2.ensures (gave_up c.args.arena.now c.args.seat.now c.loop-index.seat c.args.turns c.requires.turns all)
