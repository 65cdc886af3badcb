use Rattle.std.proofs.Common.{arith}
use Rattle.ring_queue.proofs.Pushing.{lost_by}
use Rattle.ring_queue.proofs.queue.RingQueue.push_first.Goals as goal

pub returns-else-was-ge-SHUT-clause-says : goal.returns-else-was-ge-SHUT-clause-says
returns-else-was-ge-SHUT-clause-says g c =
    let small = c.if-was-ge-SHUT.false in
    lost_by c.args.self.now.plan c.args.seat.now c.claim-was.new.seat _ _ c.claim-was.ensures.told c.requires.ready.sits.tail c.claim-was.ensures.seat.tail c.if-was-tail.false (omega (arith, small))
