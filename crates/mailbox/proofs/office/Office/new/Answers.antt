use Rattle.std.proofs.Common.{arith, ap, ◌≡◌, ◌∙◌, map}
use Rattle.std.proofs.lemmas.Grind.{common_steps}
use Rattle.carriers.specs.Numbers.{fifo_of}
use Rattle.mailbox.proofs.Openings.{senders_of-seats}
use Rattle.mailbox.proofs.office.Office.new.Goals as goal

pub returns-clause-each : goal.returns-clause-each
returns-clause-each g c =
    let steps = c.in-None.ensures.steps in
    let kept = c.loop-seat.invariant in
    let same : map (λ s. s.seat) c.loop-seat.all.items ≡ c.args.senders.items = grind (arith, common_steps) in
    senders_of-seats _ _ _ (record { queue = c.new-queue.result; letters = c.in-Ok.letters }) c.args.queue (ap fifo_of c.new-queue.ensures ∙ c.new-numbers.ensures) c.args.senders.items c.loop-seat.all.items same c.requires.senders
