use denote.Param.Send.{sendable, given_sync}
use Rattle.tasks.proofs.pools.run_batch.Goals as goal

pub run_crew-requires-clause-work : goal.run_crew-requires-clause-work
run_crew-requires-clause-work g c κs within = λ k d low.
    let s = c.requires.bounds in
    (c.requires.takers k d low, (search (sendable, s) depth 20, search (sendable, s) depth 20, search (sendable, s) depth 20, search (sendable, s) depth 20, search (sendable, given_sync, s) depth 20, search (sendable, given_sync, s) depth 20))

pub run_crew-requires-clause-lead : goal.run_crew-requires-clause-lead
run_crew-requires-clause-lead g c κs within =
    let s = c.requires.bounds in
    (c.requires.batch.seat, (c.requires.batch.role, (c.requires.batch.slots, (search (sendable, s) depth 20, search (sendable, s) depth 20, search (sendable, s) depth 20, search (sendable, s) depth 20, search (sendable, given_sync, s) depth 20, search (sendable, given_sync, s) depth 20))))
