use Rattle.std.proofs.Common.{◌≡◌, ap, ◌∙◌}
use Rattle.std.proofs.lemmas.List.Elements.{All-weaker}
use Rattle.carriers.specs.Numbers.{fifo_of}
use Rattle.owned.specs.Owned as owned
use Rattle.msq_c.specs.Blocks.{queue_of}
use Rattle.msq_c.proofs.Made.{unused_of}
use Rattle.msq_c.proofs.new_queues.seats_of.Goals as goal

pub returns-clause-unused : goal.returns-clause-unused
returns-clause-unused c = unused_of c.args.kind c.args.nodes c.args.limit c.args.numbers.now c.in_ok-queue.queue c.in_ok-queue.seats.items c.in-Ok.owned.items
    (All-weaker (λ s. owned.queue_of s ≡ c.new-numbers.result) (λ s. queue_of s ≡ c.in_ok-queue.queue) (λ s e. ap fifo_of e ∙ c.new-numbers.ensures) c.in-Ok.owned.items c.in-Ok.ensures.queue)
    c.in-Ok.ensures.seats c.in_ok-queue.ensures.new c.in_ok-queue.ensures.unused
