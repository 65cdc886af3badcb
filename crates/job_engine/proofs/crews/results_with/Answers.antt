use Rattle.std.proofs.Common.{◌∷◌, [], ap, length, arith}
use Rattle.std.proofs.lemmas.List.{length-append}
use Rattle.std.proofs.lemmas.Result.{IfOk-weaker}
use Rattle.shared_queue.specs.Queues.{numbers_in}
use Rattle.job_engine.proofs.Overs.{is_over}
use Rattle.job_engine.proofs.crews.results_with.Goals as goal

pub returns-clause-went : goal.returns-clause-went
returns-clause-went g c =
    let split = ap length c.in-Some.ensures.items in
    let parts = length-append c.pop.new.self.items (c.in-Some.giver ∷ []) in
    let count = c.requires.crew.count in
    IfOk-weaker c.submit.result _ _ (λ d w. is_over g.Q.Fifo.is_seat g.Q.Fifo.known (numbers_in c.args.queue.now) c.in-Some.giver c.pop.new.self.items
    c.args.workers (length c.args.jobs.now) d.seats.items (omega (arith, split, parts, count)) w) c.submit.ensures.went
