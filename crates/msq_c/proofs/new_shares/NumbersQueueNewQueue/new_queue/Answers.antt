use Rattle.std.proofs.Common.{ℕ, List, sym, subst}
use Rattle.msq_c.specs.Made.{IsNew}
use Rattle.msq_c.specs.Queues.{Queue}
use Rattle.msq_c.proofs.Made.{many_new}
use Rattle.msq_c.proofs.NewShares.{may_share}
use Rattle.msq_c.proofs.new_shares.NumbersQueueNewQueue.new_queue.Goals as goal

pub returns-clause-new : goal.returns-clause-new
returns-clause-new c = subst (λ (q : Queue). IsNew c.args.kind c.args.nodes c.args.limit c.args.numbers.now q c.in_ok-queue.seats.items) (sym c.new.ensures) c.in_ok-queue.ensures.new

pub returns-clause-len : goal.returns-clause-len
returns-clause-len c = many_new c.args.kind c.args.nodes c.args.limit c.args.numbers.now c.in_ok-queue.queue c.in_ok-queue.seats.items c.in_ok-queue.ensures.new

pub returns-clause-both : goal.returns-clause-both
returns-clause-both c count those = may_share c.args.kind c.args.nodes c.args.limit count c.new.result c.in_ok-queue.queue c.in_ok-queue.seats.items c.new.ensures
    (subst (λ (rs : List ℕ). IsNew c.args.kind c.args.nodes c.args.limit rs c.in_ok-queue.queue c.in_ok-queue.seats.items) those c.in_ok-queue.ensures.new)
    c.in_ok-queue.ensures.unused c.in_ok-queue.ensures.seats
