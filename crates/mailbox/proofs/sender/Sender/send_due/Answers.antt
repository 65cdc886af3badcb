use Rattle.std.proofs.Common.{subst}
use Rattle.carriers.specs.Answers.{SeesMoreOf}
use Rattle.carriers.specs.DeedsOfNumbers.{known_by_deeds}
use Rattle.carriers.proofs.Learning.{sees_then}
use Rattle.mailbox.proofs.sender.Sender.send_due.Goals as goal

pub returns-in-Ok-Late-clause-caused : goal.returns-in-Ok-Late-clause-caused
returns-in-Ok-Late-clause-caused g c =
    let late = rw c.in-Ok-Late.field-0-is at c.in-Ok-Late.ensures.answer in
    let e = late.3 in
    record {
      last = e.last;
      seat = e.seat;
      more = subst (λ s. SeesMoreOf (known_by_deeds (g.Q.Fifo.known s)) (known_by_deeds (g.Q.Fifo.known e.last))) c.store.ensures.seat (sees_then _ _ _ late.1 e.more);
      caused = e.caused;
    }
