use Rattle.std.proofs.Common.{◌≡◌, ◌∷◌, ap, subst, sym, length, arith}
use Rattle.shared_queue.specs.Queues.{numbers_in as queue_in}
use Rattle.job_results.specs.Gathers.{jobs_in}
use Rattle.dispatcher.specs.Submissions.{WasUnshut}
use Rattle.dispatcher.specs.Turns.{IsBack}
use Rattle.dispatcher.specs.Goings.{AreListed, Came, numbers_in, seats_in, WentOver, WasLost}
use Rattle.dispatcher.proofs.Zips.{zip-length}
use Rattle.dispatcher.proofs.Going.{all_listed, went_over, both_ok, lost_so}
use Rattle.dispatcher.proofs.dispatches.dispatch_keeping_seats.Goals as goal

pub gathered-requires-clause-room : goal.gathered-requires-clause-room
gathered-requires-clause-room g c =
    let back = c.in-Ok.ensures.run.back in
    let stops = WasUnshut g.Q.Fifo.is_seat g.Q.Fifo.known g.Q.Fifo.shut_cause (queue_in c.args.queue.now) in
    let many = zip-length (IsBack g.Q.Fifo.is_seat g.Q.Fifo.known g.Q.Fifo.pop_cause (queue_in c.args.queue.now) c.args.jobs.now stops (g.G.Gate.done c.args.gate.now)) c.args.takers.items c.in-Ok.run'.workers.items back in
    let room = c.in_ok-seats.ensures.room in
    let len = c.len.ensures in
    let whole = c.args.takers.ok.0 in
    omega (arith, many, room, len, whole)

pub returns-in-Ok-clause-went : goal.returns-in-Ok-clause-went
returns-in-Ok-clause-went g c =
    let is_seat = g.Q.Fifo.is_seat in
    let known = g.Q.Fifo.known in
    let queue = queue_in c.args.queue.now in
    let jobs = c.args.jobs.now in
    let run = c.in-Ok.run' in
    both_ok c.gathered.result (λ d. d.seats.items ≡ run.giver.seat ∷ seats_in run.workers.items) (λ d. Came (length (jobs_in c.in_ok-gather.gather)) (numbers_in run.workers.items))
    (λ d. WentOver is_seat known queue c.args.giver c.args.takers.items (length jobs) d.seats.items)
    (λ d same came. went_over is_seat known g.Q.Fifo.pop_cause queue jobs (WasUnshut is_seat known g.Q.Fifo.shut_cause queue) (g.G.Gate.done c.args.gate.now)
    g.Q.Fifo.push_cause g.Q.Fifo.shut_cause c.args.giver c.args.takers.items run (length jobs) d.seats.items c.in-Ok.ensures.run
    (subst (λ n. Came n (numbers_in run.workers.items)) (ap length c.in_ok-gather.ensures.jobs) came) same)
    c.gathered.ensures.seats c.gathered.ensures.came

pub returns-in-Ok-clause-lost : goal.returns-in-Ok-clause-lost
returns-in-Ok-clause-lost g c =
    let is_seat = g.Q.Fifo.is_seat in
    let known = g.Q.Fifo.known in
    let queue = queue_in c.args.queue.now in
    let jobs = c.args.jobs.now in
    let stops = WasUnshut is_seat known g.Q.Fifo.shut_cause queue in
    let gated = g.G.Gate.done c.args.gate.now in
    let run = c.in-Ok.run' in
    let ran = c.in-Ok.ensures.run in
    let listed = all_listed is_seat known g.Q.Fifo.pop_cause queue jobs stops gated c.args.takers.items run.workers.items ran.back in
    lost_so (WasLost is_seat known g.Q.Fifo.push_cause g.Q.Fifo.pop_cause g.Q.Fifo.shut_cause queue jobs gated c.args.giver c.args.takers.items) c.gathered.result (λ is. record {
      run = run;
      ran = ran;
      missing = λ came.
          c.gathered.ensures.lost (subst (λ js. AreListed js run.workers.items) (sym c.in_ok-gather.ensures.jobs) listed) is
          (subst (λ js. Came (length js) (numbers_in run.workers.items)) (sym c.in_ok-gather.ensures.jobs) came);
    })
