use Rattle.std.proofs.Common.{◌≡◌, ◌≤◌, subst, length, vec_capacity, rules, arith}
use Rattle.shared_queue.specs.Queues.{numbers_in}
use Rattle.dispatcher.specs.Submissions.{HasGiven}
use Rattle.dispatcher.specs.Turns.{IsBack}
use Rattle.dispatcher.specs.Crews.{IsStartedFor, Returned}
use Rattle.dispatcher.proofs.Zips.{zip-through, zip-length}
use Rattle.dispatcher.proofs.crews.run.Goals as goal

pub join_all-workers-requires-clause-room : goal.join_all-workers-requires-clause-room
join_all-workers-requires-clause-room g c κs within =
    let Starts = IsStartedFor g.Q.Fifo.is_seat g.Q.Fifo.known g.Q.Fifo.pop_cause (numbers_in c.args.queue.now) c.args.jobs.now g.X.Excuse.cause g.G.Gate.done c.args.gate.now in
    let many = zip-length Starts c.args.takers.items c.start_all-started.result.items c.start_all-started.ensures in
    let room : length c.args.takers.items ≤ vec_capacity c.reserve-else-is_err.new.self = search rules in
    omega (arith, many, room)

pub returns-clause-run : goal.returns-clause-run
returns-clause-run g c =
    let is_seat = g.Q.Fifo.is_seat in
    let known = g.Q.Fifo.known in
    let queue = numbers_in c.args.queue.now in
    let jobs = c.args.jobs.now in
    let cause = g.Q.Fifo.pop_cause in
    let stops = g.X.Excuse.cause in
    let done = g.G.Gate.done in
    let gate = c.args.gate.now in
    let len = c.len-seats.ensures in
    let whole = c.args.takers.ok.0 in
    let many : c.len-seats.result ≡ length c.args.takers.items = omega (arith, len, whole) in
    record {
      given = subst (λ n. HasGiven is_seat known g.Q.Fifo.push_cause g.Q.Fifo.shut_cause queue (length jobs) n c.args.giver c.submit-giver.result) many c.submit-giver.ensures;
      back = zip-through (IsStartedFor is_seat known cause queue jobs stops done gate) (Returned is_seat known cause queue jobs stops done gate)
          (IsBack is_seat known cause queue jobs stops (done gate)) (λ seat started back s r. r seat s) c.args.takers.items c.start_all-started.result.items c.join_all-workers.result.items c.start_all-started.ensures c.join_all-workers.ensures;
    }
