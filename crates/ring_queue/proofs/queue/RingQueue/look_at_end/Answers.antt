use Rattle.std.proofs.Common.{arith, refl}
use Rattle.ring_queue.specs.Steps.{EndFound}
use Rattle.ring_queue.specs.Seats.{view}
use Rattle.ring_queue.proofs.Lines.{reads_end}
use Rattle.ring_queue.proofs.Calls.{reads}
use Rattle.ring_queue.proofs.Asks.{asks}
use Rattle.ring_queue.proofs.Placing.{own_tail}
use Rattle.ring_queue.specs.Paths.{P4, reading}
use Rattle.ring_queue.proofs.Runs.{ran_read}
use Rattle.ring_queue.proofs.Tries.{tried_one}
use Rattle.ring_queue.proofs.queue.RingQueue.look_at_end.Goals as goal

pub load-tail-requires : goal.load-tail-requires
load-tail-requires g c =
    let q = c.args.self.now in
    let sits = c.requires.ready.sits in
    let words = q.laid.words in
    asks q.plan q.table.shared.key q.table.shared.table_id c.args.seat.now EndFound q.laid 0 (λ n. n) sits (omega (arith, words)) (own_tail q.plan)
    (reads q.plan 0 (view c.args.seat.now) (EndFound q.plan) (λ ws seats r is run whole knew. reads_end q.plan ws seats r (view c.args.seat.now) is run whole knew c.requires.ready.rests c.requires.due))
    (λ n v' k. ran_read q.plan P4 0 n (view c.args.seat.now) v' k.went) c.requires.ready.rests

pub returns-then-tail-seat-clause-tried : goal.returns-then-tail-seat-clause-tried
returns-then-tail-seat-clause-tried g c = tried_one _ _ (reading P4 0 _) 0 c.load-tail.ensures.2.1.learns.number c.load-tail.ensures.2.1.went.0 refl

pub returns-then-tail-seat-2-clause-tried : goal.returns-then-tail-seat-2-clause-tried
returns-then-tail-seat-2-clause-tried g c = tried_one _ _ (reading P4 0 _) 0 c.load-tail.ensures.2.1.learns.number c.load-tail.ensures.2.1.went.0 refl

pub returns-else-tail-ge-SHUT-clause-tried : goal.returns-else-tail-ge-SHUT-clause-tried
returns-else-tail-ge-SHUT-clause-tried g c = tried_one _ _ (reading P4 0 _) 0 c.load-tail.ensures.2.1.learns.number c.load-tail.ensures.2.1.went.0 refl
