use Rattle.std.proofs.Common.{◌∙◌, sym, arith}
use Rattle.two_lock.proofs.ShutTries.{shuts_out, shut_again, shut_ends, shut_gives_up}
use Rattle.two_lock.proofs.shuts.shut_queue.Goals as goal

pub loop-index-init : goal.loop-index-init
loop-index-init g c = shuts_out c.args.arena.now c.args.seat.now c.requires.ready c.requires.two_lock

pub loop-index-preserved : goal.loop-index-preserved
loop-index-preserved g c = shut_again c.args.arena.now c.args.seat.now c.loop-index.seat c.s6.new.seat c.loop-index.index c.loop-index.invariant _
    c.s6.result c.s6.ensures (sym c.got_lock.ensures ∙ c.if-got_lock.false)

pub returns-then-got_lock : goal.returns-then-got_lock
returns-then-got_lock g c = shut_ends c.args.arena.now c.args.seat.now c.loop-index.seat c.s6.new.seat c.loop-index.index c.loop-index.invariant _
    c.s6.result c.s6.ensures c.shut_locked.new.seat c.args.turns c.shut_locked.result (sym c.got_lock.ensures ∙ c.if-got_lock.true)
    c.loop-index-test.true c.shut_locked.ensures

pub returns : goal.returns
returns g c =
    let over = c.loop-index-test.false in
    let within = c.loop-index.auto.index-end in
    let some = c.requires.turns in
    shut_gives_up c.args.arena.now c.args.seat.now c.loop-index.seat c.args.turns c.loop-index.index (omega arith) (omega arith) c.loop-index.invariant
