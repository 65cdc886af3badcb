use Rattle.msq_c.proofs.Made.{asked_if, len_if}
use Rattle.msq_c.proofs.new_queues.handles_of.Goals as goal

pub returns-clause-made : goal.returns-clause-made
returns-clause-made c = asked_if c.args.kind c.args.nodes c.args.limit c.args.numbers.now c.sealed.result (λ v. v.items) (λ b. b.value) c.in_ok-boxes.boxes.items c.in_ok-owned.owned.items
    c.in_ok-boxes.ensures.boxes c.in_ok-owned.ensures.unused c.sealed.ensures.put

pub returns-clause-len : goal.returns-clause-len
returns-clause-len c = len_if c.args.kind c.args.nodes c.args.limit c.args.numbers.now c.sealed.result (λ v. v.items) (returns-clause-made c)
