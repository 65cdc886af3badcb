use denote.Param.Send.{sendable, given_sync}
use Rattle.tasks.proofs.fed_pools.run_team.Goals as goal

pub run_crew-led-requires-clause-work : goal.run_crew-led-requires-clause-work
run_crew-led-requires-clause-work g c κs within = λ k d low.
    let s = c.requires.bounds in
    (c.requires.posts k d low, (search (sendable, s) depth 20, search (sendable, s) depth 20, search (sendable, s) depth 20, search (sendable, s) depth 20, search (sendable, s) depth 20, search (sendable, given_sync, s) depth 20, search (sendable, given_sync, s) depth 20, search (sendable, given_sync, s) depth 20))

pub run_crew-led-requires-clause-lead : goal.run_crew-led-requires-clause-lead
run_crew-led-requires-clause-lead g c κs within =
    let s = c.requires.bounds in
    (c.requires.leading, (search (sendable, s) depth 20, search (sendable, s) depth 20, search (sendable, s) depth 20, search (sendable, s) depth 20, search (sendable, s) depth 20, search (sendable, given_sync, s) depth 20, search (sendable, given_sync, s) depth 20, search (sendable, given_sync, s) depth 20))
