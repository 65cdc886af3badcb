use Rattle.std.proofs.Common.{arith}
use Rattle.ring_queue.specs.Steps.{TailSeen}
use Rattle.ring_queue.specs.Seats.{view}
use Rattle.ring_queue.proofs.Lines.{sees_tail}
use Rattle.ring_queue.proofs.Calls.{reads}
use Rattle.ring_queue.proofs.Asks.{asks}
use Rattle.ring_queue.proofs.Placing.{own_tail}
use Rattle.ring_queue.specs.Paths.{C1}
use Rattle.ring_queue.proofs.Runs.{ran_read}
use Rattle.ring_queue.proofs.queue.RingQueue.see_tail.Goals as goal

pub load-tail-requires : goal.load-tail-requires
load-tail-requires g c =
    let q = c.args.self.now in
    let sits = c.requires.sits in
    let words = q.laid.words in
    asks q.plan q.table.shared.key q.table.shared.table_id c.args.seat.now TailSeen q.laid 0 (λ n. n) sits (omega (arith, words)) (own_tail q.plan)
    (reads q.plan 0 (view c.args.seat.now) (TailSeen q.plan) (λ ws seats r is run whole knew. sees_tail q.plan ws seats r (view c.args.seat.now) is run whole knew c.requires.rests))
    (λ n v' k. ran_read q.plan C1 0 n (view c.args.seat.now) v' k.went) c.requires.rests
