use Rattle.nonblocking.proofs.ShutCalls.{shuts_out, shut_again, shut_ends, shut_stops}
use Rattle.nonblocking.proofs.shuts.shut_queue.Goals as goal

pub loop-index-init : goal.loop-index-init
loop-index-init g c = shuts_out c.args.arena.now c.args.seat.now c.requires.ready c.requires.non_blocking

pub returns-in-Shut : goal.returns-in-Shut
returns-in-Shut g c = rw c.keep.ensures (shut_ends c.args.arena.now c.args.seat.now c.loop-index.seat c.shut_turn.new.seat c.pocket-pocket.result
    c.loop-index.index c.args.turns c.pocket-pocket.ensures c.loop-index.invariant c.loop-index-test.true c.in-Shut.ensures)

pub returns-in-Refused : goal.returns-in-Refused
returns-in-Refused g c = rw c.keep-in-Refused.ensures (shut_stops c.args.arena.now c.args.seat.now c.loop-index.seat c.shut_turn.new.seat
    c.pocket-pocket.result c.loop-index.index c.args.turns c.pocket-pocket.ensures c.loop-index.invariant c.in-Refused.refusal c.in-Refused.ensures)

pub loop-index-preserved : goal.loop-index-preserved
loop-index-preserved g c = shut_again c.args.arena.now c.args.seat.now c.loop-index.seat c.shut_turn.new.seat c.loop-index.index c.loop-index.invariant c.in-Failed.ensures
